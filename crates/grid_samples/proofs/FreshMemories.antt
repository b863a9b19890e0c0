-- The memories of a sample are ones that PID actions keep.
use Rattle.std.proofs.Common.{pos, refl}
use Rattle.exact_fraction.specs.Number.{den, fits, whole, zero}
use Rattle.exact_fraction.proofs.PublicLaws.{lowest_terms-of_whole}
use Rattle.rule_meaning.specs.Pid.{fresh, IsKept, IsKeptError}

zero_kept : IsKeptError zero
unfolding whole den fits
zero_kept = record {
  number = record { lowest = lowest_terms-of_whole (pos 0); fitting = refl };
  exact = record { divides = refl };
}

pub fresh_kept : IsKept fresh
fresh_kept = record { e1 = zero_kept; e2 = zero_kept }
