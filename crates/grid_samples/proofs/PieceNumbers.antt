-- The number of a piece lies in the piece.
use Rattle.std.proofs.Common.{◌≡◌, Bool, true, false, ◌⊎◌, inl, inr, Some, sym, subst, ◌∙◌, cond}
use Rattle.std.proofs.lemmas.Bool.{true≢false}
use Rattle.std.proofs.lemmas.Option.{cond_some, none-some, same_Some}
use Rattle.std.specs.Prelude.{IsTrue}
use Rattle.exact_fraction.specs.Number.{Rational, fits}
use Rattle.exact_fraction.specs.Operations.{middle_of}
use Rattle.exact_fraction.specs.Order.{◌≤ℚ◌, ◌<ℚ◌, ◌=ℚ◌, less, same}
use Rattle.exact_fraction.proofs.PublicLaws.{order-antisymmetric, order-apart, order-below_is_at_most, order-dense, order-reflexive, order-same_is_at_most, tells-less, tells-same, tests-at_most, tests-less, tests-same}
use Rattle.interval_sets.specs.declared.interval.Bound.{Bound}
use Rattle.interval_sets.specs.declared.interval.Bound.TheVariants as end
use Rattle.interval_sets.specs.declared.interval.Interval.{Interval}
use Rattle.interval_sets.specs.Intervals.{has_member, IsAbove, IsBelow, lies_in}
use Rattle.interval_sets.proofs.PublicLaws.{intervals-inside}
use Rattle.verdict_meaning.specs.Grids.{middle_if, piece_number}

-- ---- two ends that rise
apart_by : (p q : Rational) → p ≤ℚ q → same p q ≡ false
    → ((less p q ≡ true) × (p <ℚ q)) ⊎ ((less p q ≡ false) × (q ≤ℚ p)) → p <ℚ q
apart_by p q h apart (inl below) = below.1
apart_by p q h apart (inr above) =
    absurd
    (true≢false (sym ((tests-same p q).1 (order-antisymmetric p q h above.1)) ∙ apart))

rises : (p q : Rational) (m n : Bool) → IsTrue (has_member (end.Bound p m) (end.Bound q n))
    → same p q ≡ false → p <ℚ q
rises p q false false h apart = apart_by p q ((tests-at_most p q).0 h) apart (tells-less p q)
rises p q false true h apart = (tests-less p q).0 h
rises p q true false h apart = (tests-less p q).0 h
rises p q true true h apart = (tests-less p q).0 h

above_low : (p r : Rational) (m : Bool) → p <ℚ r → IsAbove (end.Bound p m) r
above_low p r true h = h
above_low p r false h = order-below_is_at_most p r h

below_high : (q r : Rational) (n : Bool) → r <ℚ q → IsBelow (end.Bound q n) r
below_high q r true h = h
below_high q r false h = order-below_is_at_most r q h

abbrev between : Bound → Bound → Interval
between low high = record { low = low; high = high }

middle_inside : (p q : Rational) (m n : Bool) → p <ℚ q
    → IsTrue (lies_in (between (end.Bound p m) (end.Bound q n)) (middle_of p q))
middle_inside p q m n h =
    let within = order-dense p q h in
    (intervals-inside (between (end.Bound p m) (end.Bound q n)) (middle_of p q)).1
    (record {
      above = above_low p (middle_of p q) m within.0;
      below = below_high q (middle_of p q) n within.1;
    })

-- two ends that are one number have it as a member
not_below : (p q : Rational) → p =ℚ q → IsTrue (less p q) → ⊥
not_below p q h below =
    order-apart q p (order-same_is_at_most p q h).1 ((tests-less p q).0 below)

point_inside : (p q : Rational) (m n : Bool)
    → IsTrue (has_member (end.Bound p m) (end.Bound q n)) → p =ℚ q
    → IsTrue (lies_in (between (end.Bound p m) (end.Bound q n)) p)
point_inside p q false false h one =
    (intervals-inside (between (end.Bound p false) (end.Bound q false)) p).1
    (record { above = order-reflexive p; below = (order-same_is_at_most p q one).0 })
point_inside p q false true h one = absurd (not_below p q one h)
point_inside p q true false h one = absurd (not_below p q one h)
point_inside p q true true h one = absurd (not_below p q one h)

-- ---- the number of a piece
middle_found : (q r : Rational) → middle_if q ≡ Some r → q ≡ r
middle_found q r e = (cond_some (fits q) q r e).1

number_by : (p q r : Rational) (m n : Bool)
    → IsTrue (has_member (end.Bound p m) (end.Bound q n)) → (b : Bool)
    → (cond b (Some p) (middle_if (middle_of p q))) ≡ Some r
    → ((b ≡ true) × (p =ℚ q)) ⊎ ((b ≡ false) × (same p q ≡ false))
    → IsTrue (lies_in (between (end.Bound p m) (end.Bound q n)) r)
number_by p q r m n h true e (inl is) =
    subst (λ z. IsTrue (lies_in (between (end.Bound p m) (end.Bound q n)) z)) (same_Some p r e)
    (point_inside p q m n h is.1)
number_by p q r m n h true e (inr is) = absurd (true≢false is.0)
number_by p q r m n h false e (inl is) = absurd (true≢false (sym is.0))
number_by p q r m n h false e (inr is) =
    subst (λ z. IsTrue (lies_in (between (end.Bound p m) (end.Bound q n)) z))
    (middle_found (middle_of p q) r e) (middle_inside p q m n (rises p q m n h is.1))

same_or_not : (p q : Rational) → ((same p q ≡ true) × (p =ℚ q)) ⊎ ((same p q ≡ false) × (¬ (p =ℚ q)))
    → ((same p q ≡ true) × (p =ℚ q)) ⊎ ((same p q ≡ false) × (same p q ≡ false))
same_or_not p q (inl h) = inl h
same_or_not p q (inr h) = inr (h.0, h.0)

pub number_inside : (low high : Bound) (r : Rational) → IsTrue (has_member low high)
    → piece_number low high ≡ Some r → IsTrue (lies_in (record { low = low; high = high }) r)
unfolding piece_number
number_inside (end.Bound p m) (end.Bound q n) r h e =
    number_by p q r m n h (same p q) e (same_or_not p q (tells-same p q))
number_inside (end.Bound p m) end.NoBound r h e = absurd (none-some r e)
number_inside end.NoBound high r h e = absurd (none-some r e)
