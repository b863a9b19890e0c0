-- Numbers that are made of two that fit.
use Rattle.std.proofs.Common.{◌≡◌, ℕ, zero, suc, ◌^◌, ◌<◌, ℤ, pos, refl, arith, Some}
use Rattle.exact_fraction.specs.Number.{ratio}
use Rattle.exact_fraction.specs.Checked.{made, fitting}
use Rattle.exact_fraction.proofs.PublicLaws.{lowest_terms-fits}

-- a number that is made of two that fit
pub made-ratio : (n : ℤ) (d : ℤ) (size below : ℕ) → n ≡ pos size → d ≡ pos below → 0 < below → size < 2 ^ 63 → below < 2 ^ 63 → made n d ≡ Some (ratio (pos size) below)
unfolding made fitting
made-ratio n d size (suc below) same same_below p small fit =
    let known = lowest_terms-fits (pos size) (suc below) p small fit in
    rw (same, same_below) (rw known refl)
made-ratio n d size zero same same_below p small fit = absurd (omega arith)
