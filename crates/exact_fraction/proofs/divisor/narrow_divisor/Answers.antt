-- Each remainder keeps the common divisors, and at the end the other is 0.
use Rattle.std.proofs.Common.{arith}
use Rattle.std.proofs.lemmas.Nat.Gcd.{IsGcd-from_mod, IsGcd-from_zero, same_from_IsGcd}
use Rattle.exact_fraction.proofs.Lowest.{IsGcd-gcd}
use Rattle.exact_fraction.proofs.divisor.narrow_divisor.Goals as goal

pub loop-y-preserved : goal.loop-y-preserved
loop-y-preserved c = λ g h. c.loop-y.invariant g (IsGcd-from_mod c.loop-y.x c.loop-y.y g h)

pub returns : goal.returns
returns c =
    same_from_IsGcd c.args.a c.args.b _ _ (c.loop-y.invariant c.loop-y.x (IsGcd-from_zero c.loop-y.x c.loop-y.y (omega arith))) (IsGcd-gcd c.args.a c.args.b)
