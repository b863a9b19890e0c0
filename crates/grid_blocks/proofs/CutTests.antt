-- Tests of cuts that rise, by their places, and of runs of pieces.
use Rattle.std.proofs.Common.{◌≡◌, ◌⊎◌, inl, inr, ℕ, ◌+◌, ◌-◌, ◌<◌, ◌≤◌, Bool, true, false, not}
use Rattle.std.proofs.Common.{List, length, get_or}
use Rattle.std.proofs.Common.{refl, sym, ap, ap₂, ◌∙◌, arith}
use Rattle.std.specs.Prelude.{◌/◌, ◌%◌, ◌&&◌, nat_eq, nat_le, nat_lt}
use Rattle.std.proofs.lemmas.Bool.{cases_order}
use Rattle.std.proofs.lemmas.Bool.Decides.{nat_tests}
use Rattle.std.proofs.lemmas.Option.{slice_get-get_or}
use Rattle.exact_fraction.specs.Number.{Rational, zero}
use Rattle.exact_fraction.specs.Order.{less}
use Rattle.exact_fraction.proofs.PublicLaws.{order-below_is_at_most, order-reflexive, tests-less}
use Rattle.exact_fraction.proofs.PublicLaws.{tests-not_less}
use Rattle.interval_sets.specs.declared.interval.Bound.TheVariants as end
use Rattle.interval_sets.specs.Cuts.{IsRising}
use Rattle.interval_sets.specs.Intervals.{has_member, is_above, is_below, lies_in}
use Rattle.interval_sets.proofs.PublicLaws.{cuts-rising}
use Rattle.block_search.specs.declared.span.Span.{Span}
use Rattle.block_search.specs.Blocks.{is_none}
use Rattle.block_search.specs.Trees.{is_point_of}
use Rattle.verdict_meaning.specs.Certificates.{can_split}
use Rattle.grid_blocks.specs.GridBoxes.{cut_at, interval_of, piece_count}

-- ---- cuts by their places
below_by_place : (cuts : List Rational) (a b : ℕ) → IsRising cuts → a < b → b < length cuts
    → less (get_or cuts a zero) (get_or cuts b zero) ≡ true
below_by_place cuts a b rises h k =
    let p = get_or cuts a zero in
    let q = get_or cuts b zero in
    (tests-less p q).1
    (cuts-rising cuts rises a b p q h (slice_get-get_or cuts a zero (omega (arith, h, k)))
    (slice_get-get_or cuts b zero k))

not_below_itself : (p : Rational) → less p p ≡ false
not_below_itself p = (tests-not_less p p).1 (order-reflexive p)

not_below_back : (p q : Rational) → less p q ≡ true → less q p ≡ false
not_below_back p q h =
    (tests-not_less q p).1 (order-below_is_at_most p q ((tests-less p q).0 h))

-- a cut is below another one exactly where its place is
less_by : (cuts : List Rational) (a b : ℕ) → IsRising cuts → a ≤ length cuts - 1
    → b ≤ length cuts - 1 → (a ≡ b) ⊎ ((a < b) ⊎ (b < a))
    → less (get_or cuts a zero) (get_or cuts b zero) ≡ nat_lt a b
less_by cuts a b rises h k (inl same) =
    let is : nat_lt a b ≡ false = grind (arith, nat_tests) in
    ap (λ n. less (get_or cuts a zero) (get_or cuts n zero)) (sym same)
    ∙ not_below_itself (get_or cuts a zero) ∙ sym is
less_by cuts a b rises h k (inr (inl below)) =
    let is : nat_lt a b ≡ true = grind (arith, nat_tests) in
    below_by_place cuts a b rises below (omega (arith, below, k)) ∙ sym is
less_by cuts a b rises h k (inr (inr above)) =
    let is : nat_lt a b ≡ false = grind (arith, nat_tests) in
    not_below_back (get_or cuts b zero) (get_or cuts a zero)
    (below_by_place cuts b a rises above (omega (arith, above, h))) ∙ sym is

pub less_by_place : (cuts : List Rational) (a b : ℕ) → IsRising cuts → a ≤ length cuts - 1
    → b ≤ length cuts - 1 → less (get_or cuts a zero) (get_or cuts b zero) ≡ nat_lt a b
less_by_place cuts a b rises h k = less_by cuts a b rises h k (cases_order a b)

-- the same of the cuts of two pieces
pub less_at : (cuts : List Rational) (m n : ℕ) → IsRising cuts → m ≤ piece_count cuts
    → n ≤ piece_count cuts → less (cut_at cuts m) (cut_at cuts n) ≡ nat_lt (m / 2) (n / 2)
less_at cuts m n rises h k =
    less_by_place cuts (m / 2) (n / 2) rises (omega (arith, h)) (omega (arith, k))

-- ---- whether a run of pieces has a member
members_by : (p q : Rational) (m n : ℕ) (odd even : Bool) → nat_eq (m % 2) 1 ≡ odd
    → nat_eq (n % 2) 0 ≡ even → less p q ≡ nat_lt (m / 2) (n / 2)
    → less q p ≡ nat_lt (n / 2) (m / 2)
    → has_member (end.Bound p odd) (end.Bound q even) ≡ not (nat_le n m)
members_by p q m n false false low high below above =
    let is : not (nat_lt (n / 2) (m / 2)) ≡ not (nat_le n m) = grind (arith, nat_tests) in
    ap not above ∙ is
members_by p q m n false true low high below above =
    let is : nat_lt (m / 2) (n / 2) ≡ not (nat_le n m) = grind (arith, nat_tests) in below ∙ is
members_by p q m n true false low high below above =
    let is : nat_lt (m / 2) (n / 2) ≡ not (nat_le n m) = grind (arith, nat_tests) in below ∙ is
members_by p q m n true true low high below above =
    let is : nat_lt (m / 2) (n / 2) ≡ not (nat_le n m) = grind (arith, nat_tests) in below ∙ is

pub run_members : (cuts : List Rational) (span : Span) → IsRising cuts
    → span.low ≤ piece_count cuts → span.high ≤ piece_count cuts
    → has_member (interval_of cuts span).low (interval_of cuts span).high ≡ not (is_none span)
unfolding interval_of
run_members cuts span rises h k =
    members_by (cut_at cuts span.low) (cut_at cuts span.high) span.low span.high
    (nat_eq (span.low % 2) 1) (nat_eq (span.high % 2) 0) refl refl
    (less_at cuts span.low span.high rises h k) (less_at cuts span.high span.low rises k h)

-- ---- a run that is split at a cut
pub record IsPoint (span : Span) (at : ℕ) : Type 0 where
  pub wide : span.low + 1 < span.high
  pub even : at % 2 ≡ 0
  pub from_low : span.low ≤ at
  pub below_high : at < span.high

pub point_facts : (span : Span) (at : ℕ) → is_point_of span at ≡ true → IsPoint span at
point_facts span at h =
    record {
      wide = grind (arith, nat_tests);
      even = grind (arith, nat_tests);
      from_low = grind (arith, nat_tests);
      below_high = grind (arith, nat_tests);
    }

pub split_at : (cuts : List Rational) (span : Span) (at : ℕ) → IsRising cuts
    → span.high ≤ piece_count cuts → is_point_of span at ≡ true
    → can_split (interval_of cuts span) (cut_at cuts at) ≡ true
unfolding interval_of can_split
split_at cuts span at rises k h =
    let point = point_facts span at h in
    let wide = point.wide in
    let from_low = point.from_low in
    let below_high = point.below_high in
    let low : span.low ≤ piece_count cuts = omega (arith, wide, k) in
    let here : at ≤ piece_count cuts = omega (arith, below_high, k) in
    let apart = less_at cuts span.low span.high rises low k in
    let below = less_at cuts at span.low rises here low in
    let above = less_at cuts span.high at rises k here in
    ap₂ (λ b c. b && c) apart (ap₂ (λ b c. not b && not c) below above)
    ∙ split_test span at point
  where
    split_test : (span : Span) (at : ℕ) → IsPoint span at
        → (nat_lt (span.low / 2) (span.high / 2)
        && (not (nat_lt (at / 2) (span.low / 2)) && not (nat_lt (span.high / 2) (at / 2)))) ≡ true
    split_test span at point =
        let wide = point.wide in
        let from_low = point.from_low in
        let below_high = point.below_high in
        grind (arith, nat_tests)

-- a cut of a run lies in its interval
above_low : (p q : Rational) (m at : ℕ) (odd : Bool) → nat_eq (m % 2) 1 ≡ odd → at % 2 ≡ 0
    → m ≤ at → less p q ≡ nat_lt (m / 2) (at / 2) → less q p ≡ nat_lt (at / 2) (m / 2)
    → is_above (end.Bound p odd) q ≡ true
above_low p q m at true e even h below above =
    let is : nat_lt (m / 2) (at / 2) ≡ true = grind (arith, nat_tests) in below ∙ is
above_low p q m at false e even h below above =
    let is : not (nat_lt (at / 2) (m / 2)) ≡ true = grind (arith, nat_tests) in ap not above ∙ is

below_high : (p q : Rational) (n at : ℕ) (even : Bool) → nat_eq (n % 2) 0 ≡ even → at % 2 ≡ 0
    → at < n → less q p ≡ nat_lt (at / 2) (n / 2) → less p q ≡ nat_lt (n / 2) (at / 2)
    → is_below (end.Bound p even) q ≡ true
below_high p q n at true e even h below above =
    let is : nat_lt (at / 2) (n / 2) ≡ true = grind (arith, nat_tests) in below ∙ is
below_high p q n at false e even h below above =
    let is : not (nat_lt (n / 2) (at / 2)) ≡ true = grind (arith, nat_tests) in ap not above ∙ is

pub cut_in_run : (cuts : List Rational) (span : Span) (at : ℕ) → IsRising cuts
    → span.high ≤ piece_count cuts → is_point_of span at ≡ true
    → lies_in (interval_of cuts span) (cut_at cuts at) ≡ true
unfolding interval_of
cut_in_run cuts span at rises k h =
    let point = point_facts span at h in
    let wide = point.wide in
    let within = point.below_high in
    let low : span.low ≤ piece_count cuts = omega (arith, wide, k) in
    let here : at ≤ piece_count cuts = omega (arith, within, k) in
    ap₂ (λ b c. b && c)
    (above_low (cut_at cuts span.low) (cut_at cuts at) span.low at (nat_eq (span.low % 2) 1) refl
    point.even point.from_low (less_at cuts span.low at rises low here)
    (less_at cuts at span.low rises here low))
    (below_high (cut_at cuts span.high) (cut_at cuts at) span.high at (nat_eq (span.high % 2) 0)
    refl point.even point.below_high (less_at cuts at span.high rises here k)
    (less_at cuts span.high at rises k here))
