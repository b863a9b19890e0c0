-- The interval of a piece of a run is part of the run's interval.
use Rattle.std.proofs.Common.{◌≡◌, ◌⊎◌, inl, inr, ℕ, ◌+◌, ◌<◌, ◌≤◌, Bool, true, false, List}
use Rattle.std.proofs.Common.{get_or}
use Rattle.std.proofs.Common.{refl, sym, ap, subst, arith}
use Rattle.std.specs.Prelude.{◌/◌, ◌%◌, nat_eq}
use Rattle.std.proofs.lemmas.Bool.{cases_lt}
use Rattle.std.proofs.lemmas.Bool.Decides.{nat_tests}
use Rattle.std.proofs.lemmas.Option.{slice_get-get_or}
use Rattle.exact_fraction.specs.Number.{Rational, zero}
use Rattle.exact_fraction.specs.Order.{◌<ℚ◌, ◌≤ℚ◌}
use Rattle.exact_fraction.proofs.PublicLaws.{order-at_most_below, order-below_at_most}
use Rattle.exact_fraction.proofs.PublicLaws.{order-below_is_at_most}
use Rattle.interval_sets.specs.declared.interval.Bound.{Bound}
use Rattle.interval_sets.specs.declared.interval.Bound.TheVariants as end
use Rattle.interval_sets.specs.Cuts.{IsRising}
use Rattle.interval_sets.specs.Intervals.{IsAbove, IsBelow, IsInside}
use Rattle.interval_sets.proofs.PublicLaws.{cuts-rising, intervals-inside}
use Rattle.block_search.specs.declared.span.Span.{Span}
use Rattle.block_search.specs.Blocks.{one_piece}
use Rattle.grid_blocks.specs.GridBoxes.{cut_at, interval_of, piece_count}
use Rattle.grid_samples.specs.Covers.{IsPartOf}
use Rattle.grid_events.specs.BlockCells.{IsPieceOf}

-- ---- cuts by their places
cut_below : (cuts : List Rational) (m n : ℕ) → IsRising cuts → (m / 2) < (n / 2)
    → n ≤ piece_count cuts → cut_at cuts m <ℚ cut_at cuts n
cut_below cuts m n rises h k =
    cuts-rising cuts rises (m / 2) (n / 2) (cut_at cuts m) (cut_at cuts n) h
    (slice_get-get_or cuts (m / 2) zero (omega (arith, h, k)))
    (slice_get-get_or cuts (n / 2) zero (omega (arith, h, k)))

cut_same : (cuts : List Rational) (m n : ℕ) → m / 2 ≡ n / 2 → cut_at cuts m ≡ cut_at cuts n
cut_same cuts m n is = ap (λ at. get_or cuts at zero) is

-- ---- low ends
at_most_above : (p q : Rational) (b : Bool) → IsAbove (end.Bound p b) q → p ≤ℚ q
at_most_above p q true h = order-below_is_at_most p q h
at_most_above p q false h = h

above_by : (p q : Rational) (b : Bool) → p <ℚ q → IsAbove (end.Bound p b) q
above_by p q true h = h
above_by p q false h = order-below_is_at_most p q h

above_same : (p q : Rational) (b c : Bool) → (b ≡ true → c ≡ true) → IsAbove (end.Bound p c) q
    → IsAbove (end.Bound p b) q
above_same p q true c so h = subst (λ one. IsAbove (end.Bound p one) q) (so refl) h
above_same p q false c so h = at_most_above p q c h

abbrev low_end : List Rational → ℕ → Bound
low_end cuts at = end.Bound (cut_at cuts at) (nat_eq (at % 2) 1)

odd_later : (m n : ℕ) → m ≤ n → m / 2 ≡ n / 2 → nat_eq (m % 2) 1 ≡ true
    → nat_eq (n % 2) 1 ≡ true
odd_later m n h same odd = grind (arith, nat_tests)

low_kept : (cuts : List Rational) (m n : ℕ) (q : Rational) → IsRising cuts → m ≤ n
    → n ≤ piece_count cuts → IsAbove (low_end cuts n) q → IsAbove (low_end cuts m) q
low_kept cuts m n q rises h k above = by_order (cases_lt (m / 2) (n / 2))
  where
    by_order : ((m / 2) < (n / 2)) ⊎ ((n / 2) ≤ (m / 2))
        → IsAbove (end.Bound (cut_at cuts m) (nat_eq (m % 2) 1)) q
    by_order (inl below) =
        above_by (cut_at cuts m) q (nat_eq (m % 2) 1)
        (order-below_at_most (cut_at cuts m) (cut_at cuts n) q (cut_below cuts m n rises below k)
        (at_most_above (cut_at cuts n) q (nat_eq (n % 2) 1) above))
    by_order (inr other) =
        let same : m / 2 ≡ n / 2 = omega (arith, h, other) in
        let so : nat_eq (m % 2) 1 ≡ true → nat_eq (n % 2) 1 ≡ true =
        λ odd. odd_later m n h same odd in
        subst (λ p. IsAbove (end.Bound p (nat_eq (m % 2) 1)) q) (sym (cut_same cuts m n same))
        (above_same (cut_at cuts n) q (nat_eq (m % 2) 1) (nat_eq (n % 2) 1) so above)

-- ---- high ends
at_most_below : (p q : Rational) (b : Bool) → IsBelow (end.Bound p b) q → q ≤ℚ p
at_most_below p q true h = order-below_is_at_most q p h
at_most_below p q false h = h

below_by : (p q : Rational) (b : Bool) → q <ℚ p → IsBelow (end.Bound p b) q
below_by p q true h = h
below_by p q false h = order-below_is_at_most q p h

below_same : (p q : Rational) (b c : Bool) → (b ≡ true → c ≡ true) → IsBelow (end.Bound p c) q
    → IsBelow (end.Bound p b) q
below_same p q true c so h = subst (λ one. IsBelow (end.Bound p one) q) (so refl) h
below_same p q false c so h = at_most_below p q c h

abbrev high_end : List Rational → ℕ → Bound
high_end cuts at = end.Bound (cut_at cuts at) (nat_eq (at % 2) 0)

even_before : (m n : ℕ) → m ≤ n → m / 2 ≡ n / 2 → nat_eq (n % 2) 0 ≡ true
    → nat_eq (m % 2) 0 ≡ true
even_before m n h same even = grind (arith, nat_tests)

high_kept : (cuts : List Rational) (m n : ℕ) (q : Rational) → IsRising cuts → m ≤ n
    → n ≤ piece_count cuts → IsBelow (high_end cuts m) q → IsBelow (high_end cuts n) q
high_kept cuts m n q rises h k below = by_order (cases_lt (m / 2) (n / 2))
  where
    by_order : ((m / 2) < (n / 2)) ⊎ ((n / 2) ≤ (m / 2))
        → IsBelow (end.Bound (cut_at cuts n) (nat_eq (n % 2) 0)) q
    by_order (inl less) =
        below_by (cut_at cuts n) q (nat_eq (n % 2) 0)
        (order-at_most_below q (cut_at cuts m) (cut_at cuts n)
        (at_most_below (cut_at cuts m) q (nat_eq (m % 2) 0) below)
        (cut_below cuts m n rises less k))
    by_order (inr other) =
        let same : m / 2 ≡ n / 2 = omega (arith, h, other) in
        let so : nat_eq (n % 2) 0 ≡ true → nat_eq (m % 2) 0 ≡ true =
        λ even. even_before m n h same even in
        subst (λ p. IsBelow (end.Bound p (nat_eq (n % 2) 0)) q) (cut_same cuts m n same)
        (below_same (cut_at cuts m) q (nat_eq (n % 2) 0) (nat_eq (m % 2) 0) so below)

-- ---- intervals
pub piece_in_run : (cuts : List Rational) (span : Span) (piece : ℕ) → IsRising cuts
    → span.high ≤ piece_count cuts → IsPieceOf span piece
    → IsPartOf (interval_of cuts (one_piece piece)) (interval_of cuts span)
unfolding interval_of
piece_in_run cuts span piece rises within is q inside =
    let low = is.from_low in
    let high = is.below_high in
    let parts : IsInside (interval_of cuts (one_piece piece)) q =
    (intervals-inside (interval_of cuts (one_piece piece)) q).0 inside in
    (intervals-inside (interval_of cuts span) q).1
    (record {
      above =
          low_kept cuts span.low piece q rises low (omega (arith, high, within)) parts.above;
      below =
          high_kept cuts (piece + 1) span.high q rises (omega (arith, high)) within parts.below;
    })
