-- The pieces of cuts and of moments, as those of each number in a row.
use Rattle.std.proofs.Common.{◌≡◌, ℕ, suc, ◌+◌, Option, Some, None, List, [], ◌∷◌}
use Rattle.std.proofs.Common.{length, get_or, map, ℤ, refl, sym, ap, ap₂, ◌∙◌, arith}
use Rattle.std.specs.Prelude.{◌/◌, ◌%◌, nat_eq, slice_get, zero as none}
use Rattle.std.specs.List.{range_with_len}
use Rattle.std.proofs.lemmas.List.FromFn.{length-map-range_with_len}
use Rattle.exact_fraction.specs.Number.{Rational, zero}
use Rattle.interval_sets.specs.declared.interval.Bound.{Bound}
use Rattle.interval_sets.specs.declared.interval.Bound.TheVariants as end
use Rattle.interval_sets.specs.declared.interval.Interval.{Interval}
use Rattle.block_search.specs.Blocks.{one_piece}
use Rattle.verdict_meaning.specs.Grids.{pieces_of, spans_to}
use Rattle.grid_blocks.specs.declared.grid.MomentPieces.{MomentPieces}
use Rattle.grid_blocks.specs.GridBoxes.{end_before, interval_of, moments_in, piece_count}

-- ---- numbers in a row, each so much more
moved : {A : Type 0} (f g : ℕ → A) (by : ℕ) → ((n : ℕ) → f (n + by) ≡ g n) → (from n : ℕ)
    → map f (range_with_len (from + by) n) ≡ map g (range_with_len from n)
moved f g by same from none = refl
moved f g by same from (suc n) =
    let next : from + by + 1 ≡ from + 1 + by = omega arith in
    ap₂ (λ first more. first ∷ more) (same from)
    (ap (λ at. map f (range_with_len at n)) next ∙ moved f g by same (from + 1) n)

-- ---- cuts
abbrev between : Bound → Bound → Interval
between low high = record { low = low; high = high }

two_more : (p : Rational) (cuts : List Rational) (k : ℕ)
    → interval_of (p ∷ cuts) (one_piece (k + 2)) ≡ interval_of cuts (one_piece k)
unfolding interval_of
two_more p cuts k =
    let low : (k + 2) / 2 ≡ suc (k / 2) = omega arith in
    let high : (k + 2 + 1) / 2 ≡ suc ((k + 1) / 2) = omega arith in
    let odd : (k + 2) % 2 ≡ k % 2 = omega arith in
    let even : (k + 2 + 1) % 2 ≡ (k + 1) % 2 = omega arith in
    ap₂ between
    (ap₂ (λ at n. end.Bound (get_or (p ∷ cuts) at zero) (nat_eq n 1)) low odd)
    (ap₂ (λ at n. end.Bound (get_or (p ∷ cuts) at zero) (nat_eq n 0)) high even)

pub pieces_in_row : (cuts : List Rational)
    → pieces_of cuts
    ≡ map (λ k. interval_of cuts (one_piece k)) (range_with_len 0 (piece_count cuts))
unfolding pieces_of interval_of
pieces_in_row [] = refl
pieces_in_row (p ∷ []) = refl
pieces_in_row (p ∷ q ∷ more) =
    let rest = q ∷ more in
    let I : ℕ → Interval = λ k. interval_of (p ∷ rest) (one_piece k) in
    let J : ℕ → Interval = λ k. interval_of rest (one_piece k) in
    let count : piece_count (p ∷ rest) ≡ suc (suc (piece_count rest)) = omega arith in
    ap (λ later. I 0 ∷ I 1 ∷ later)
    (pieces_in_row (q ∷ more) ∙ sym (moved I J 2 (two_more p rest) 0 (piece_count rest)))
    ∙ ap (λ n. map I (range_with_len 0 n)) (sym count)

pub piece_number : (cuts : List Rational) → length (pieces_of cuts) ≡ piece_count cuts
piece_number cuts =
    ap length (pieces_in_row cuts)
    ∙ length-map-range_with_len (λ k. interval_of cuts (one_piece k)) 0 (piece_count cuts)

-- ---- moments
abbrev pieces_from : ℤ → List ℤ → MomentPieces
pieces_from last firsts = record { firsts = firsts; last = last }

ends_alike : (last : ℤ) (a b : List ℤ) (next : Option ℤ)
    → end_before (pieces_from last a) next ≡ end_before (pieces_from last b) next
ends_alike last a b None = refl
ends_alike last a b (Some first) = refl

one_later : (last first : ℤ) (more : List ℤ) (k : ℕ)
    → moments_in (pieces_from last (first ∷ more)) (one_piece (k + 1))
    ≡ moments_in (pieces_from last more) (one_piece k)
one_later last first more k =
    let at : k + 1 ≡ suc k = omega arith in
    let next : k + 1 + 1 ≡ suc (k + 1) = omega arith in
    ap₂ (λ m e. (m, e))
    (ap (λ n. get_or (first ∷ more) n last) at)
    (ap (λ n. end_before (pieces_from last (first ∷ more)) (slice_get (first ∷ more) n)) next
    ∙ ends_alike last (first ∷ more) more (slice_get more (k + 1)))

pub spans_in_row : (last : ℤ) (firsts : List ℤ)
    → spans_to last firsts
    ≡ map (λ k. moments_in (pieces_from last firsts) (one_piece k))
    (range_with_len 0 (length firsts))
unfolding spans_to
spans_in_row last [] = refl
spans_in_row last (first ∷ []) = refl
spans_in_row last (first ∷ next ∷ more) =
    let rest = next ∷ more in
    let I : ℕ → ℤ × ℤ = λ k. moments_in (pieces_from last (first ∷ rest)) (one_piece k) in
    let J : ℕ → ℤ × ℤ = λ k. moments_in (pieces_from last rest) (one_piece k) in
    ap (λ later. I 0 ∷ later)
    (spans_in_row last (next ∷ more)
    ∙ sym (moved I J 1 (one_later last first rest) 0 (length rest)))
