-- The tests of the numbers that are the same as one, and of all others.
use Rattle.std.proofs.Common.{◌≡◌, Bool, true, false, not, refl, sym, ap, ◌∙◌}
use Rattle.std.specs.Prelude.{◌&&◌, ◌||◌}
use Rattle.std.proofs.lemmas.Bool.{false≢true}
use Rattle.exact_fraction.specs.Number.{Rational}
use Rattle.exact_fraction.specs.Order.{less, same}
use Rattle.exact_fraction.proofs.PublicLaws.{tests-same, tests-not_less, order-antisymmetric, order-same_is_at_most}

not_same_below : (q p : Rational) → less q p ≡ true → same q p ≡ false
not_same_below q p h = by_test (same q p) refl
  where
    by_test : (t : Bool) → same q p ≡ t → t ≡ false
    by_test true e = absurd (false≢true (sym ((tests-not_less q p).1 ((order-same_is_at_most q p ((tests-same q p).0 e)).1)) ∙ h))
    by_test false e = refl

not_same_above : (q p : Rational) → less p q ≡ true → same q p ≡ false
not_same_above q p h = by_test (same q p) refl
  where
    by_test : (t : Bool) → same q p ≡ t → t ≡ false
    by_test true e = absurd (false≢true (sym ((tests-not_less p q).1 ((order-same_is_at_most q p ((tests-same q p).0 e)).0)) ∙ h))
    by_test false e = refl

pub same_tests : (q p : Rational) → same q p ≡ (not (less q p) && not (less p q))
same_tests q p = by_tests (less q p) (less p q) refl refl
  where
    by_tests : (s t : Bool) → less q p ≡ s → less p q ≡ t → same q p ≡ (not s && not t)
    by_tests true t h k = not_same_below q p h
    by_tests false true h k = not_same_above q p k
    by_tests false false h k = (tests-same q p).1 (order-antisymmetric q p ((tests-not_less p q).0 k) ((tests-not_less q p).0 h))

in_point : (a b : Bool) → (not a && not b || false) ≡ (not a && not b)
in_point true b = refl
in_point false true = refl
in_point false false = refl

on_a_side : (a b : Bool) → (true && a || (b && true || false)) ≡ not (not a && not b)
on_a_side true b = refl
on_a_side false true = refl
on_a_side false false = refl

pub point_test : (q p : Rational) → (not (less q p) && not (less p q) || false) ≡ same q p
point_test q p = in_point (less q p) (less p q) ∙ sym (same_tests q p)

pub others_test : (q p : Rational) → (true && less q p || (less p q && true || false)) ≡ not (same q p)
others_test q p = on_a_side (less q p) (less p q) ∙ ap not (sym (same_tests q p))
