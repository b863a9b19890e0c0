-- The second before a moment is a moment where another one is earlier.
use Rattle.std.proofs.Common.{◌≡◌, Bool, true, false, cond, Some, None, ℤ, pos, ◌-ℤ◌, ◌≤ℤ◌, ◌<ℤ◌}
use Rattle.std.proofs.Common.{refl, ap, ap₂, ◌∙◌, arith, to_z, of_z, w64}
use Rattle.std.specs.Prelude.{◌&&◌, int_le, FitsSigned}
use Rattle.std.proofs.lemmas.Int.{ints, to_z-of_z}
use Rattle.exact_fraction.specs.Moments.{IsMoment, first_second, last_second, moment_at}

pub le_true : (x y : ℤ) → x ≤ℤ y → int_le x y ≡ true
le_true x y h = by_test (int_le x y) refl
  where
    by_test : (b : Bool) → int_le x y ≡ b → b ≡ true
    by_test true e = refl
    by_test false e = absurd (omega (arith, ints, e, h))

moment_is : (second : ℤ) → IsMoment second → moment_at second ≡ Some second
unfolding moment_at
moment_is second h =
    ap (λ b. cond b (Some second) None)
    (ap₂ (λ x y. x && y) (le_true first_second second h.early)
    (le_true second last_second h.late))

passed : (s second : ℤ) → s ≡ second → IsMoment second → to_z w64 (of_z w64 s) ≡ second
passed s second e h =
    ap (λ z. to_z w64 (of_z w64 z)) e
    ∙ to_z-of_z w64 second (fits second h)
  where
    fits : (z : ℤ) → IsMoment z → FitsSigned w64 z
    fits z h = omega (arith, ints, h.early, h.late)

before_moment : (moment earlier : ℤ) → IsMoment moment → IsMoment earlier → earlier <ℤ moment
    → IsMoment (moment -ℤ pos 1)
before_moment moment earlier h k later =
    let early = k.early in
    let late = h.late in
    record { early = omega (arith, ints, early, later); late = omega (arith, ints, late) }

-- the second before a moment, as it is passed
pub before_is : (s moment earlier : ℤ) → s ≡ moment → IsMoment moment → IsMoment earlier
    → earlier <ℤ moment
    → moment_at (to_z w64 (of_z w64 (to_z w64 (of_z w64 s) -ℤ pos 1)))
    ≡ Some (moment -ℤ pos 1)
before_is s moment earlier e h k later =
    let before = before_moment moment earlier h k later in
    ap (λ z. moment_at (to_z w64 (of_z w64 (z -ℤ pos 1)))) (passed s moment e h)
    ∙ ap moment_at (passed (moment -ℤ pos 1) (moment -ℤ pos 1) refl before)
    ∙ moment_is (moment -ℤ pos 1) before

pub none_not_some : (second : ℤ) → None ≡ Some second → ⊥
none_not_some second e = absurd (grind arith)

pub some_same : (a b : ℤ) → Some a ≡ Some b → a ≡ b
some_same a b e = grind arith
