-- What is left after the common divisor is the ratio.
use Rattle.std.proofs.Common.{SFits, rules, arith, sym, subst, ap, ◌∙◌}
use Rattle.std.specs.Int.{w128}
use Rattle.std.proofs.lemmas.Int.{ints}
use Rattle.std.specs.Prelude.{unsigned_abs}
use Rattle.exact_fraction.specs.Number.{IsLowest}
use Rattle.exact_fraction.specs.Checked.{fitting}
use Rattle.exact_fraction.proofs.Lowest.{IsLowest-ratio}
use Rattle.exact_fraction.proofs.Held.{reduced_passed, made_none, made_fitting}
use Rattle.exact_fraction.proofs.frac.Frac.make.Goals as goal

pub returns-then-d-lt1 : goal.returns-then-d-lt1
returns-then-d-lt1 c = record { value = made_none c.args.n c.args.d (omega (arith, ints)) }

pub fitting_number-requires-clause-positive : goal.fitting_number-requires-clause-positive
fitting_number-requires-clause-positive c =
    let f : SFits w128 c.lowest_terms-num.result.0 = search rules in
    let g : SFits w128 c.lowest_terms-num.result.1 = search rules in
    (reduced_passed c.args.n c.args.d _ _ c.ranges.n c.ranges.d f g c.lowest_terms-num.ensures.num c.lowest_terms-num.ensures.den).0

pub fitting_number-requires-clause-lowest : goal.fitting_number-requires-clause-lowest
fitting_number-requires-clause-lowest c =
    let f : SFits w128 c.lowest_terms-num.result.0 = search rules in
    let g : SFits w128 c.lowest_terms-num.result.1 = search rules in
    let r = reduced_passed c.args.n c.args.d _ _ c.ranges.n c.ranges.d f g c.lowest_terms-num.ensures.num c.lowest_terms-num.ensures.den in
    subst IsLowest (sym r.1) (IsLowest-ratio c.args.n (unsigned_abs c.args.d) (omega (arith, ints)))

pub returns : goal.returns
returns c =
    let f : SFits w128 c.lowest_terms-num.result.0 = search rules in
    let g : SFits w128 c.lowest_terms-num.result.1 = search rules in
    let r = reduced_passed c.args.n c.args.d _ _ c.ranges.n c.ranges.d f g c.lowest_terms-num.ensures.num c.lowest_terms-num.ensures.den in
    record { value = c.fitting_number.ensures ∙ ap fitting r.1 ∙ sym (made_fitting c.args.n c.args.d (omega (arith, ints))) }
