use Rattle.std.proofs.Common.{◌<◌, ◌^◌, arith}
use Rattle.std.specs.Prelude.{unsigned_abs}
use Rattle.std.proofs.lemmas.Int.{ints}
use Rattle.exact_fraction.proofs.PublicLaws.{lowest_terms-positive}
use Rattle.table_hulls.proofs.Passed.{passed_wide, den_small}
use Rattle.table_hulls.proofs.second.seconds_of.Goals as goal

pub returns-clause-positive : goal.returns-clause-positive
returns-clause-positive c =
    let some = lowest_terms-positive c.args.hours.now in
    let small : unsigned_abs c.den.result < 2 ^ 63 = rw c.den.ensures.value (den_small c.args.hours.now c.den.ensures.held) in
    rw (passed_wide c.den.result small) (rw c.den.ensures.value (omega (arith, ints, some)))
