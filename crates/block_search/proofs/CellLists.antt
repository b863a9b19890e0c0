-- The cells of a block and of its parts.
use Rattle.std.proofs.Common.{◌≡◌, ℕ, zero, suc, ◌+◌, ◌-◌, ◌≤◌, ◌<◌, Bool, true, false, ◌||◌, Option, Some, None}
use Rattle.std.proofs.Common.{List, [], ◌∷◌, ◌++◌, map, length, refl, sym, ap, ap₂, ◌∙◌, arith}
use Rattle.std.specs.Prelude.{slice_set, slice_get, if◌then◌else◌, ⊤}
use Rattle.std.specs.List.{flat_map, list_any, range_with_len}
use Rattle.std.proofs.lemmas.Bool.Decides.{nat_tests}
use Rattle.std.proofs.lemmas.Grind.{flat_map-append}
use Rattle.std.proofs.lemmas.List.{append-nil, map-append}
use Rattle.block_search.specs.declared.span.Span.{Span}
use Rattle.block_search.specs.Blocks.{block_of, cells, IsWithin, is_none, is_wide, low_of, one_piece, span_from, wide_from, width}

-- ---- numbers in a row
pub numbers_split : (low m n : ℕ)
    → range_with_len low (m + n) ≡ range_with_len low m ++ range_with_len (low + m) n
numbers_split low zero n =
    ap₂ range_with_len (omega arith) (omega arith)
numbers_split low (suc m) n =
    let count : suc m + n ≡ suc (m + n) = omega arith in
    let start : (low + 1) + m ≡ low + suc m = omega arith in
    ap (range_with_len low) count
    ∙ ap (λ numbers. low ∷ numbers)
    (numbers_split (low + 1) m n
    ∙ ap (λ k. range_with_len (low + 1) m ++ range_with_len k n) start)

pub numbers_cut : (low middle high : ℕ) → low ≤ middle → middle ≤ high
    → range_with_len low (high - low)
    ≡ range_with_len low (middle - low) ++ range_with_len middle (high - middle)
numbers_cut low middle high h k =
    let count : high - low ≡ (middle - low) + (high - middle) = omega (arith, h, k) in
    let start : low + (middle - low) ≡ middle = omega (arith, h) in
    ap (range_with_len low) count
    ∙ numbers_split low (middle - low) (high - middle)
    ∙ ap (λ k. range_with_len low (middle - low) ++ range_with_len k (high - middle)) start

-- ---- a block that is cut at its first axis
with_first : List Span → ℕ → List (List ℕ)
with_first more piece = map (λ cell. piece ∷ cell) (cells more)

first_cut : (low middle high : ℕ) (more : List Span) → low ≤ middle → middle ≤ high
    → cells (span_from low high ∷ more)
    ≡ cells (span_from low middle ∷ more) ++ cells (span_from middle high ∷ more)
unfolding cells
first_cut low middle high more h k =
    ap (flat_map (λ piece. map (λ cell. piece ∷ cell) (cells more)))
    (numbers_cut low middle high h k)
    ∙ flat_map-append (λ piece. map (λ cell. piece ∷ cell) (cells more))
    (range_with_len low (middle - low)) (range_with_len middle (high - middle))

pub cells_single : (span : Span) (more : List Span) → width span ≡ 1
    → cells (span ∷ more) ≡ map (λ cell. span.low ∷ cell) (cells more)
unfolding cells
cells_single span more e =
    ap (λ n. flat_map (λ piece. map (λ cell. piece ∷ cell) (cells more)) (range_with_len span.low n)) e
    ∙ append-nil (map (λ cell. span.low ∷ cell) (cells more))

-- ---- a block that is cut at a later axis
-- each axis before this one has one piece
abbrev pub CutsAt : ℕ → List Span → Type 0
CutsAt zero block = ⊤
CutsAt (suc axis) [] = ⊤
CutsAt (suc axis) (span ∷ more) = (width span ≡ 1) × CutsAt axis more

pub cells_cut : (axis : ℕ) (block : List Span) (low middle high : ℕ) → low ≤ middle
    → middle ≤ high → CutsAt axis block → axis < length block
    → cells (slice_set block axis (span_from low high))
    ≡ cells (slice_set block axis (span_from low middle))
    ++ cells (slice_set block axis (span_from middle high))
cells_cut axis [] low middle high h k single within = absurd (omega (arith, within))
cells_cut zero (span ∷ more) low middle high h k single within = first_cut low middle high more h k
cells_cut (suc axis) (span ∷ more) low middle high h k single within =
    let here = slice_set more axis (span_from low high) in
    let below = slice_set more axis (span_from low middle) in
    let above = slice_set more axis (span_from middle high) in
    cells_single span here single.0
    ∙ ap (map (λ cell. span.low ∷ cell))
    (cells_cut axis more low middle high h k single.1 (omega (arith, within)))
    ∙ map-append (λ cell. span.low ∷ cell) (cells below) (cells above)
    ∙ ap₂ (λ xs ys. xs ++ ys) (sym (cells_single span below single.0))
    (sym (cells_single span above single.0))

-- ---- a block without cells
none_each : (numbers : List ℕ) → flat_map (λ piece. map (λ cell. piece ∷ cell) []) numbers ≡ []
none_each [] = refl
none_each (piece ∷ numbers) = none_each numbers

no_cells : (span : Span) (more : List Span) (b : Bool) → is_none span ≡ b
    → (b || list_any is_none more) ≡ true → (list_any is_none more ≡ true → cells more ≡ [])
    → cells (span ∷ more) ≡ []
unfolding cells
no_cells span more true e h ih =
    let count : width span ≡ 0 = grind (arith, nat_tests) in
    ap (λ n. flat_map (λ piece. map (λ cell. piece ∷ cell) (cells more)) (range_with_len span.low n)) count
no_cells span more false e h ih =
    ap (λ list. flat_map (λ piece. map (λ cell. piece ∷ cell) list) (range_with_len span.low (width span))) (ih h)
    ∙ none_each (range_with_len span.low (width span))

pub cells_none : (block : List Span) → list_any is_none block ≡ true → cells block ≡ []
cells_none [] h = absurd (grind arith)
cells_none (span ∷ more) h =
    no_cells span more (is_none span) refl h (cells_none more)

-- ---- a block of one cell
pub record IsOneCell (block : List Span) : Type 0 where
  pub cells_is : cells block ≡ map low_of block ∷ []
  pub block_is : block_of (map low_of block) ≡ block

one_wide : (span : Span) → is_none span ≡ false → is_wide span ≡ false → width span ≡ 1
one_wide span e f = grind (arith, nat_tests)

one_span : (span : Span) → is_none span ≡ false → is_wide span ≡ false → one_piece span.low ≡ span
one_span span e f =
    let high : span.low + 1 ≡ span.high = grind (arith, nat_tests) in
    ap (span_from span.low) high

one_more : (at : ℕ) (span : Span) (more : List Span) (b w : Bool) → is_none span ≡ b
    → is_wide span ≡ w → (b || list_any is_none more) ≡ false
    → (if w then Some at else wide_from (at + 1) more) ≡ None
    → (list_any is_none more ≡ false → wide_from (at + 1) more ≡ None → IsOneCell more)
    → IsOneCell (span ∷ more)
unfolding block_of
one_more at span more true w e f h k ih = absurd (grind arith)
one_more at span more false true e f h k ih = absurd (grind arith)
one_more at span more false false e f h k ih =
    let rest = ih h k in
    record {
      cells_is =
          cells_single span more (one_wide span e f)
          ∙ ap (map (λ cell. span.low ∷ cell)) rest.cells_is;
      block_is = ap₂ (λ s t. s ∷ t) (one_span span e f) rest.block_is;
    }

pub one_cell_is : (at : ℕ) (block : List Span) → list_any is_none block ≡ false
    → wide_from at block ≡ None → IsOneCell block
unfolding cells block_of
one_cell_is at [] h k = record { cells_is = refl; block_is = refl }
one_cell_is at (span ∷ more) h k =
    one_more at span more (is_none span) (is_wide span) refl refl h k
    (one_cell_is (at + 1) more)

-- ---- the first axis of more than one piece
pub record IsWideAt (block : List Span) (axis : ℕ) (span : Span) : Type 0 where
  pub get : slice_get block axis ≡ Some span
  pub wide : is_wide span ≡ true
  pub single : CutsAt axis block

pub record Wide (at : ℕ) (block : List Span) (axis : ℕ) : Type 0 where
  pub offset : ℕ
  pub is : axis ≡ at + offset
  pub span : Span
  pub wide : IsWideAt block offset span

wide_more : (at : ℕ) (span : Span) (more : List Span) (axis : ℕ) (b w : Bool) → is_none span ≡ b
    → is_wide span ≡ w → (b || list_any is_none more) ≡ false
    → (if w then Some at else wide_from (at + 1) more) ≡ Some axis
    → (list_any is_none more ≡ false → wide_from (at + 1) more ≡ Some axis → Wide (at + 1) more axis)
    → Wide at (span ∷ more) axis
wide_more at span more axis true w e f h k ih = absurd (grind arith)
wide_more at span more axis false true e f h k ih = record {
  offset = 0;
  is = some_is at axis k;
  span = span;
  wide = record { get = refl; wide = f; single = tt };
}
  where
    some_is : (m n : ℕ) → Some m ≡ Some n → n ≡ m + 0
    some_is m n e = omega (arith, some_same m n e)
      where
        some_same : (m n : ℕ) → Some m ≡ Some n → m ≡ n
        some_same m n e = grind arith
wide_more at span more axis false false e f h k ih =
    let rest = ih h k in
    let is = rest.is in
    record {
      offset = suc rest.offset;
      is = omega (arith, is);
      span = rest.span;
      wide = record {
        get = rest.wide.get;
        wide = rest.wide.wide;
        single = (one_wide span e f, rest.wide.single);
      };
    }

pub wide_in : (at : ℕ) (block : List Span) (axis : ℕ) → list_any is_none block ≡ false
    → wide_from at block ≡ Some axis → Wide at block axis
wide_in at [] axis h k = absurd (grind arith)
wide_in at (span ∷ more) axis h k =
    wide_more at span more axis (is_none span) (is_wide span) refl refl h k
    (wide_in (at + 1) more axis)

-- ---- parts of blocks of a grid
pub within_part : (axes : List ℕ) (block : List Span) (axis : ℕ) (span : Span) (low high : ℕ)
    → IsWithin axes block → slice_get block axis ≡ Some span → high ≤ span.high
    → IsWithin axes (slice_set block axis (span_from low high))
unfolding IsWithin
within_part axes [] axis span low high h get k = absurd (grind arith)
within_part [] (first ∷ more) axis span low high h get k = absurd h
within_part (count ∷ axes) (first ∷ more) zero span low high h get k =
    let same : first ≡ span = some_span first span get in
    let most = h.0 in
    let is : first.high ≡ span.high = ap (λ s. s.high) same in
    (omega (arith, most, is, k), h.1)
  where
    some_span : (m n : Span) → Some m ≡ Some n → m ≡ n
    some_span m n e = grind arith
within_part (count ∷ axes) (first ∷ more) (suc axis) span low high h get k =
    (h.0, within_part axes more axis span low high h.1 get k)
