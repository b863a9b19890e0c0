-- Each turn takes one factor out of both, and at the end one of the two has none.
use Rattle.std.proofs.Common.{◌≡◌, ◌<◌, ◌%◌, arith, inr}
use Rattle.std.proofs.lemmas.Nat.Gcd.{mod-eq-zero_of_dvd}
use Rattle.exact_fraction.proofs.Decimals.{one_less}
use Rattle.exact_fraction.proofs.decimal.without_twos.Goals as goal

pub loop-twos-preserved : goal.loop-twos-preserved
loop-twos-preserved c =
    let left : 0 < c.loop-twos.twos = omega (arith, c.loop-twos-test.true) in
    let whole : c.loop-twos.rest % 2 ≡ 0 = omega (arith, c.if-rest-eq0.true) in
    one_less 2 c.args.n c.loop-twos.rest c.args.most c.loop-twos.twos (omega arith) left whole c.loop-twos.invariant

pub returns-else-rest-eq0-clause-lowest : goal.returns-else-rest-eq0-clause-lowest
returns-else-rest-eq0-clause-lowest c =
    inr (λ h. absurd (omega (arith, c.if-rest-eq0.false, mod-eq-zero_of_dvd 2 {n = c.loop-twos.rest} h)))
