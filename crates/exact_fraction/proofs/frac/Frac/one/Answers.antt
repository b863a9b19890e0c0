-- 1 is in lowest terms and fits.
use Rattle.std.proofs.Common.{pos, refl, arith}
use Rattle.std.proofs.lemmas.Int.{ints}
use Rattle.exact_fraction.specs.Number.{whole, fits, den}
use Rattle.exact_fraction.proofs.Held.{IsLowest-whole}
use Rattle.exact_fraction.proofs.frac.Frac.one.Goals as goal

pub invariant_of-result : goal.invariant_of-result
unfolding whole fits den
invariant_of-result c = (omega (arith, ints), record { lowest = IsLowest-whole (pos 1); fitting = refl })

pub returns : goal.returns
unfolding whole
returns c = record { value = refl }
