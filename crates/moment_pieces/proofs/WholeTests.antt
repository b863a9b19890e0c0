-- Tests of whole numbers.
use Rattle.std.proofs.Common.{◌≡◌, Bool, true, false, ℤ, ◌≤ℤ◌, ◌<ℤ◌, refl, arith}
use Rattle.std.specs.Prelude.{int_lt}
use Rattle.std.specs.Ordering.{int_eq}
use Rattle.std.specs.Cmp.{signed_Decides}
use Rattle.std.proofs.lemmas.Int.{ints}

pub eq_is : (x y : ℤ) → x ≡ y → int_eq x y ≡ true
eq_is x y = (signed_Decides x y).1

pub eq_not : (x y : ℤ) → (x ≡ y → ⊥) → int_eq x y ≡ false
eq_not x y h = by_test (int_eq x y) refl
  where
    by_test : (b : Bool) → int_eq x y ≡ b → b ≡ false
    by_test true e = absurd (h ((signed_Decides x y).0 e))
    by_test false e = refl

pub lt_true : (x y : ℤ) → x <ℤ y → int_lt x y ≡ true
lt_true x y h = by_test (int_lt x y) refl
  where
    by_test : (b : Bool) → int_lt x y ≡ b → b ≡ true
    by_test true e = refl
    by_test false e = absurd (omega (arith, ints, e, h))

pub lt_false : (x y : ℤ) → y ≤ℤ x → int_lt x y ≡ false
lt_false x y h = by_test (int_lt x y) refl
  where
    by_test : (b : Bool) → int_lt x y ≡ b → b ≡ false
    by_test true e = absurd (omega (arith, ints, e, h))
    by_test false e = refl
