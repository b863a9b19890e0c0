-- A number of 32 bits fits.
use Rattle.std.proofs.Common.{sym, ap, subst, arith}
use Rattle.std.proofs.lemmas.Int.{ints}
use Rattle.exact_fraction.specs.Number.{whole, IsNumber}
use Rattle.exact_fraction.proofs.Held.{IsNumber-whole, widened_32}
use Rattle.exact_fraction.proofs.frac.Frac.whole.Goals as goal

pub invariant_of-result : goal.invariant_of-result
unfolding whole
invariant_of-result c =
    let p = widened_32 c.args.n c.ranges.n in
    (omega (arith, ints), subst (λ x. IsNumber (whole x)) (sym p.0) (IsNumber-whole c.args.n p.1))

pub returns : goal.returns
unfolding whole
returns c = record { value = ap whole (widened_32 c.args.n c.ranges.n).0 }
