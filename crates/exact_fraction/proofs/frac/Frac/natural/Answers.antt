-- A number of 32 bits fits.
use Rattle.std.proofs.Common.{pos, ◌<◌, ◌^◌, sym, ap, subst, arith}
use Rattle.std.specs.Int.{w64}
use Rattle.std.proofs.lemmas.Int.{ints, to_z_pos}
use Rattle.exact_fraction.specs.Number.{whole, IsNumber}
use Rattle.exact_fraction.proofs.Held.{IsNumber-whole}
use Rattle.exact_fraction.proofs.frac.Frac.natural.Goals as goal

pub invariant_of-result : goal.invariant_of-result
unfolding whole
invariant_of-result c =
    let small : c.args.n < 2 ^ 63 = omega (arith, c.ranges.n.fits) in
    (omega (arith, ints), subst (λ x. IsNumber (whole x)) (sym (to_z_pos w64 c.args.n small)) (IsNumber-whole (pos c.args.n) small))

pub returns : goal.returns
unfolding whole
returns c =
    let small : c.args.n < 2 ^ 63 = omega (arith, c.ranges.n.fits) in
    record { value = ap whole (to_z_pos w64 c.args.n small) }
