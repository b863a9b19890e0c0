-- Each turn takes one factor out of both, and at the end one of the two has none.
use Rattle.std.proofs.Common.{◌≡◌, ◌<◌, ◌%◌, arith, inr}
use Rattle.std.proofs.lemmas.Nat.Gcd.{mod-eq-zero_of_dvd}
use Rattle.exact_fraction.proofs.Decimals.{one_less}
use Rattle.exact_fraction.proofs.decimal.without_fives.Goals as goal

pub loop-fives-preserved : goal.loop-fives-preserved
loop-fives-preserved c =
    let left : 0 < c.loop-fives.fives = omega (arith, c.loop-fives-test.true) in
    let whole : c.loop-fives.rest % 5 ≡ 0 = omega (arith, c.if-rest-eq0.true) in
    one_less 5 c.args.n c.loop-fives.rest c.args.most c.loop-fives.fives (omega arith) left whole c.loop-fives.invariant

pub returns-else-rest-eq0-clause-lowest : goal.returns-else-rest-eq0-clause-lowest
returns-else-rest-eq0-clause-lowest c =
    inr (λ h. absurd (omega (arith, c.if-rest-eq0.false, mod-eq-zero_of_dvd 5 {n = c.loop-fives.rest} h)))
