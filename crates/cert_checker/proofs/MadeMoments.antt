-- Moments that are made of the seconds of others.
use Rattle.std.proofs.Common.{◌≡◌, Bool, true, false, cond, Some, None, ℤ, pos, ◌-ℤ◌, ◌≤ℤ◌, ◌<ℤ◌, refl, ap, ap₂, ◌∙◌, arith, to_z, of_z, w64}
use Rattle.std.specs.Prelude.{◌&&◌, int_le, FitsSigned}
use Rattle.std.proofs.lemmas.Int.{ints, to_z-of_z}
use Rattle.exact_fraction.specs.Moments.{IsMoment, moment_at, first_second, last_second}

le_true : (x y : ℤ) → x ≤ℤ y → int_le x y ≡ true
le_true x y h = by_test (int_le x y) refl
  where
    by_test : (b : Bool) → int_le x y ≡ b → b ≡ true
    by_test true e = refl
    by_test false e = absurd (omega (arith, ints, e, h))

moment_is : (s : ℤ) → IsMoment s → moment_at s ≡ Some s
unfolding moment_at
moment_is s h =
    ap (λ b. cond b (Some s) None)
    (ap₂ (λ x y. x && y) (le_true first_second s h.early) (le_true s last_second h.late))

moment_fits : (second : ℤ) → IsMoment second → FitsSigned w64 second
moment_fits second h = omega (arith, ints, h.early, h.late)

-- the moment that is made of a second that is passed
pub moment_passed : (passed second : ℤ) → passed ≡ second → IsMoment second
    → moment_at (to_z w64 (of_z w64 passed)) ≡ Some second
moment_passed passed second e h =
    ap (λ s. moment_at (to_z w64 (of_z w64 s))) e
    ∙ ap moment_at (to_z-of_z w64 second (moment_fits second h)) ∙ moment_is second h

-- the second before a moment that is after another one
pub before_later : (first m : ℤ) → IsMoment first → IsMoment m → first <ℤ m
    → IsMoment (m -ℤ pos 1)
before_later first m h g later =
    let early = h.early in
    let late = g.late in
    record {
      early = omega (arith, ints, early, later);
      late = omega (arith, ints, late);
    }
