-- The tests of the seconds of a moment.
use Rattle.std.proofs.Common.{◌≡◌, Bool, true, false, cond, ◌&&◌, ℤ, ◌≤ℤ◌, ◌<ℤ◌, Some, None, sym, ap₂, refl, arith}
use Rattle.std.specs.Prelude.{int_le}
use Rattle.std.proofs.lemmas.Int.{ints}
use Rattle.exact_fraction.specs.Moments.{first_second, last_second, moment_at}

within : (s : ℤ) (a b : Bool) → int_le first_second s ≡ a → int_le s last_second ≡ b → moment_at s ≡ cond (a && b) (Some s) None
unfolding moment_at
within s a b e f = ap₂ (λ x y. cond (x && y) (Some s) None) e f

pub moment_some : (s : ℤ) → first_second ≤ℤ s → s ≤ℤ last_second → Some s ≡ moment_at s
moment_some s h k = sym (within s true true (sym (omega (arith, ints))) (sym (omega (arith, ints))))

pub moment_early : (s : ℤ) → s <ℤ first_second → None ≡ moment_at s
moment_early s h = sym (within s false (int_le s last_second) (sym (omega (arith, ints))) refl)

pub moment_late : (s : ℤ) → last_second <ℤ s → None ≡ moment_at s
moment_late s h = by_test (int_le first_second s) refl
  where
    by_test : (a : Bool) → int_le first_second s ≡ a → None ≡ moment_at s
    by_test true e = sym (within s true false e (sym (omega (arith, ints))))
    by_test false e = sym (within s false false e (sym (omega (arith, ints))))
