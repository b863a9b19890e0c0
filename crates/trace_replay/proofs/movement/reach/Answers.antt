use Rattle.std.proofs.Common.{◌≡◌, ◌*◌, ◌^◌, ◌<◌, ◌∙◌, ap, sym, subst, pos, arith}
use Rattle.std.specs.Prelude.{unsigned_abs}
use Rattle.std.specs.Int.{w128}
use Rattle.std.proofs.lemmas.Int.{ints, to_z-of_z}
use Rattle.exact_fraction.specs.Number.{ratio, den}
use Rattle.trace_replay.specs.internal.Moving.{IsReach, billionths_of}
use Rattle.trace_replay.proofs.Reaching.{num_least, num_above, size_is, product_is, part_small, whole_small, part_below, count_most, counted, rate_small, reach_is, is_reach}
use Rattle.trace_replay.proofs.movement.reach.Goals as goal

pub times-part-requires-clause-left : goal.times-part-requires-clause-left
times-part-requires-clause-left c = omega (arith, ints, num_least c.args.gap.now c.requires.least, c.num.ensures.value, c.num.type_inv)

pub times-whole-requires-clause-right : goal.times-whole-requires-clause-right
times-whole-requires-clause-right c = omega (arith, ints, num_above c.args.rate.now c.requires.takes_time, c.num-2.ensures.value, c.num-2.type_inv)

pub nearest_billionths-requires-clause-size : goal.nearest_billionths-requires-clause-size
nearest_billionths-requires-clause-size c =
    let part : c.times-part.result ≡ unsigned_abs c.args.gap.now.num * den c.args.rate.now =
    product_is c.times-part.result c.num.result c.den.result c.args.gap.now.num (pos (den c.args.rate.now)) (record { sfits = c.num.type_inv }) (record { sfits = c.den.type_inv }) c.num.ensures.value c.den.ensures.value c.times-part.ensures in
    let size : unsigned_abs c.args.gap.now.num < 2 ^ 63 = size_is c.num.result c.args.gap.now.num (record { sfits = c.num.type_inv }) c.num.ensures.value (num_least c.args.gap.now c.requires.least) in
    part_small c.times-part.result (unsigned_abs c.args.gap.now.num) (den c.args.rate.now) part size (rate_small c.args.rate.now c.requires.rate)

pub nearest_billionths-requires-clause-positive : goal.nearest_billionths-requires-clause-positive
nearest_billionths-requires-clause-positive c =
    let all : c.times-whole.result ≡ den c.args.gap.now * unsigned_abs c.args.rate.now.num =
    product_is c.times-whole.result c.den-2.result c.num-2.result (pos (den c.args.gap.now)) c.args.rate.now.num (record { sfits = c.den-2.type_inv }) (record { sfits = c.num-2.type_inv }) c.den-2.ensures.value c.num-2.ensures.value c.times-whole.ensures in
    omega (arith, all, part_below c.args.gap.now c.args.rate.now c.requires.least c.requires.below)

pub nearest_billionths-requires-clause-small : goal.nearest_billionths-requires-clause-small
nearest_billionths-requires-clause-small c =
    let all : c.times-whole.result ≡ den c.args.gap.now * unsigned_abs c.args.rate.now.num =
    product_is c.times-whole.result c.den-2.result c.num-2.result (pos (den c.args.gap.now)) c.args.rate.now.num (record { sfits = c.den-2.type_inv }) (record { sfits = c.num-2.type_inv }) c.den-2.ensures.value c.num-2.ensures.value c.times-whole.ensures in
    let below : den c.args.gap.now < 2 ^ 63 = size_is c.den-2.result (pos (den c.args.gap.now)) (record { sfits = c.den-2.type_inv }) c.den-2.ensures.value (omega (arith, ints)) in
    let size : unsigned_abs c.args.rate.now.num < 2 ^ 63 = size_is c.num-2.result c.args.rate.now.num (record { sfits = c.num-2.type_inv }) c.num-2.ensures.value (omega (arith, ints, num_above c.args.rate.now c.requires.takes_time)) in
    whole_small c.times-whole.result (den c.args.gap.now) (unsigned_abs c.args.rate.now.num) all below size

pub billionths-requires-clause-most : goal.billionths-requires-clause-most
billionths-requires-clause-most c =
    let part : c.times-part.result ≡ unsigned_abs c.args.gap.now.num * den c.args.rate.now =
    product_is c.times-part.result c.num.result c.den.result c.args.gap.now.num (pos (den c.args.rate.now)) (record { sfits = c.num.type_inv }) (record { sfits = c.den.type_inv }) c.num.ensures.value c.den.ensures.value c.times-part.ensures in
    let all : c.times-whole.result ≡ den c.args.gap.now * unsigned_abs c.args.rate.now.num =
    product_is c.times-whole.result c.den-2.result c.num-2.result (pos (den c.args.gap.now)) c.args.rate.now.num (record { sfits = c.den-2.type_inv }) (record { sfits = c.num-2.type_inv }) c.den-2.ensures.value c.num-2.ensures.value c.times-whole.ensures in
    let below : c.times-part.result < c.times-whole.result = omega (arith, part, all, part_below c.args.gap.now c.args.rate.now c.requires.least c.requires.below) in
    (counted c.nearest_billionths.result (billionths_of c.times-part.result c.times-whole.result) (record { sfits = c.nearest_billionths.type_inv }) c.nearest_billionths.ensures (count_most c.times-part.result c.times-whole.result below)).1

pub billionths-requires-clause-least : goal.billionths-requires-clause-least
billionths-requires-clause-least c =
    let part : c.times-part.result ≡ unsigned_abs c.args.gap.now.num * den c.args.rate.now =
    product_is c.times-part.result c.num.result c.den.result c.args.gap.now.num (pos (den c.args.rate.now)) (record { sfits = c.num.type_inv }) (record { sfits = c.den.type_inv }) c.num.ensures.value c.den.ensures.value c.times-part.ensures in
    let all : c.times-whole.result ≡ den c.args.gap.now * unsigned_abs c.args.rate.now.num =
    product_is c.times-whole.result c.den-2.result c.num-2.result (pos (den c.args.gap.now)) c.args.rate.now.num (record { sfits = c.den-2.type_inv }) (record { sfits = c.num-2.type_inv }) c.den-2.ensures.value c.num-2.ensures.value c.times-whole.ensures in
    let below : c.times-part.result < c.times-whole.result = omega (arith, part, all, part_below c.args.gap.now c.args.rate.now c.requires.least c.requires.below) in
    (counted c.nearest_billionths.result (billionths_of c.times-part.result c.times-whole.result) (record { sfits = c.nearest_billionths.type_inv }) c.nearest_billionths.ensures (count_most c.times-part.result c.times-whole.result below)).0

pub returns-clause-value : goal.returns-clause-value
returns-clause-value c =
    let part : c.times-part.result ≡ unsigned_abs c.args.gap.now.num * den c.args.rate.now =
    product_is c.times-part.result c.num.result c.den.result c.args.gap.now.num (pos (den c.args.rate.now)) (record { sfits = c.num.type_inv }) (record { sfits = c.den.type_inv }) c.num.ensures.value c.den.ensures.value c.times-part.ensures in
    let all : c.times-whole.result ≡ den c.args.gap.now * unsigned_abs c.args.rate.now.num =
    product_is c.times-whole.result c.den-2.result c.num-2.result (pos (den c.args.gap.now)) c.args.rate.now.num (record { sfits = c.den-2.type_inv }) (record { sfits = c.num-2.type_inv }) c.den-2.ensures.value c.num-2.ensures.value c.times-whole.ensures in
    c.billionths.ensures
    ∙ ap (λ n. ratio n 1000000000) (to_z-of_z w128 c.nearest_billionths.result (record { sfits = c.nearest_billionths.type_inv }) ∙ c.nearest_billionths.ensures)
    ∙ sym (reach_is c.args.gap.now c.args.rate.now c.times-part.result c.times-whole.result c.requires.least c.requires.takes_time part all)

pub returns-clause-reach : goal.returns-clause-reach
returns-clause-reach c =
    let part : c.times-part.result ≡ unsigned_abs c.args.gap.now.num * den c.args.rate.now =
    product_is c.times-part.result c.num.result c.den.result c.args.gap.now.num (pos (den c.args.rate.now)) (record { sfits = c.num.type_inv }) (record { sfits = c.den.type_inv }) c.num.ensures.value c.den.ensures.value c.times-part.ensures in
    let all : c.times-whole.result ≡ den c.args.gap.now * unsigned_abs c.args.rate.now.num =
    product_is c.times-whole.result c.den-2.result c.num-2.result (pos (den c.args.gap.now)) c.args.rate.now.num (record { sfits = c.den-2.type_inv }) (record { sfits = c.num-2.type_inv }) c.den-2.ensures.value c.num-2.ensures.value c.times-whole.ensures in
    let below : c.times-part.result < c.times-whole.result = omega (arith, part, all, part_below c.args.gap.now c.args.rate.now c.requires.least c.requires.below) in
    subst IsReach
    (sym (c.billionths.ensures
    ∙ ap (λ n. ratio n 1000000000) (to_z-of_z w128 c.nearest_billionths.result (record { sfits = c.nearest_billionths.type_inv }) ∙ c.nearest_billionths.ensures)))
    (is_reach (billionths_of c.times-part.result c.times-whole.result) (count_most c.times-part.result c.times-whole.result below))
