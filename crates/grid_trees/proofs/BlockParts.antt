-- The parts of the box of a block at a cut, as boxes of the parts of the block.
use Rattle.std.proofs.Common.{◌≡◌, ℕ, zero, suc, ◌+◌, ◌≤◌, Bool, true, false, ◌&&◌, ◌||◌}
use Rattle.std.proofs.Common.{Option, Some, None}
use Rattle.std.proofs.Common.{List, [], ◌∷◌, length, refl, ap, ◌∙◌, arith, nat_lt}
use Rattle.std.proofs.Common.{ℤ, pos, ◌-ℤ◌}
use Rattle.std.specs.Prelude.{if◌then◌else◌, int_le, slice_get, slice_set}
use Rattle.std.specs.List.{list_any}
use Rattle.std.proofs.lemmas.Bool.{or_parts, true≢false}
use Rattle.block_search.specs.declared.span.Span.{Span}
use Rattle.block_search.specs.Blocks.{IsWithin, is_none, one_piece, span_from}
use Rattle.block_search.specs.Trees.{is_later_of, is_point_of}
use Rattle.verdict_meaning.specs.declared.cell.Cell.{Cell}
use Rattle.verdict_meaning.specs.Certificates.{above_of, below_of, can_split, part_at, part_through}
use Rattle.verdict_meaning.specs.Certificates.{part_with}
use Rattle.verdict_meaning.specs.Reaches.{piece_in}
use Rattle.grid_blocks.specs.declared.grid.Grid.{Grid}
use Rattle.grid_blocks.specs.declared.grid.KeyCuts.{KeyCuts}
use Rattle.grid_blocks.specs.declared.grid.MomentPieces.{MomentPieces}
use Rattle.grid_blocks.specs.GridBoxes.{box_of, cut_at, first_moment, interval_of, lengths}

-- the box of a block, or the empty part where the block has no cell
abbrev pub part_of : Grid → List Span → Option Cell
part_of grid block = if list_any is_none block then None else Some (box_of grid block)

pub some_part : (grid : Grid) (block : List Span) → list_any is_none block ≡ false
    → Some (box_of grid block) ≡ part_of grid block
some_part grid block e = by (list_any is_none block) e
  where
    by : (b : Bool) → b ≡ false
        → Some (box_of grid block) ≡ (if b then None else Some (box_of grid block))
    by true e = absurd (true≢false e)
    by false e = refl

-- the parts of a block's box at a cut of a key
pub record KeyParts (grid : Grid) (block : List Span) (axis : ℕ) (span : Span) (at : ℕ)
    (cuts : KeyCuts) : Type 0 where
  pub found : piece_in cuts.key (box_of grid block).keys ≡ Some (interval_of cuts.cuts span)
  pub splits : can_split (interval_of cuts.cuts span) (cut_at cuts.cuts at) ≡ true
  pub below :
      part_with cuts.key (below_of (interval_of cuts.cuts span) (cut_at cuts.cuts at))
      (box_of grid block)
      ≡ part_of grid (slice_set block axis (span_from span.low at))
  pub middle :
      part_at cuts.key (interval_of cuts.cuts span) (cut_at cuts.cuts at) (box_of grid block)
      ≡ part_of grid (slice_set block axis (one_piece at))
  pub above :
      part_with cuts.key (above_of (interval_of cuts.cuts span) (cut_at cuts.cuts at))
      (box_of grid block)
      ≡ part_of grid (slice_set block axis (span_from (at + 1) span.high))

-- the parts of a block's box at a cut before a piece of moments
pub record MomentParts (grid : Grid) (block : List Span) (axis : ℕ) (span : Span) (at : ℕ) :
    Type 0 where
  pub pieces : MomentPieces
  pub is : grid.moments ≡ Some pieces
  pub first : ℤ
  pub last : ℤ
  pub found : (box_of grid block).moments ≡ Some (first, last)
  pub splits :
      (int_le first (first_moment pieces at)
      && int_le (first_moment pieces at) last) ≡ true
  pub before :
      part_through first (first_moment pieces at -ℤ pos 1) (box_of grid block)
      ≡ part_of grid (slice_set block axis (span_from span.low at))
  pub from :
      part_through (first_moment pieces at) last (box_of grid block)
      ≡ part_of grid (slice_set block axis (span_from at span.high))

-- each cut of a block of a grid cuts its box in the same way
pub record HasParts (grid : Grid) : Type 0 where
  pub keys :
      (block : List Span) (axis : ℕ) (span : Span) (at : ℕ) (cuts : KeyCuts)
      → IsWithin (lengths grid) block → list_any is_none block ≡ false
      → slice_get grid.keys axis ≡ Some cuts → slice_get block axis ≡ Some span
      → is_point_of span at ≡ true → KeyParts grid block axis span at cuts
  pub moments :
      (block : List Span) (axis : ℕ) (span : Span) (at : ℕ) → IsWithin (lengths grid) block
      → list_any is_none block ≡ false → nat_lt axis (length grid.keys) ≡ false
      → slice_get block axis ≡ Some span → is_later_of span at ≡ true
      → MomentParts grid block axis span at

-- ---- blocks in which one axis has other pieces
pub within_part : (axes : List ℕ) (block : List Span) (axis : ℕ) (span : Span) (low high : ℕ)
    → IsWithin axes block → slice_get block axis ≡ Some span → high ≤ span.high
    → IsWithin axes (slice_set block axis (span_from low high))
unfolding IsWithin
within_part axes [] axis span low high h get k = absurd (grind arith)
within_part [] (first ∷ more) axis span low high h get k = absurd h
within_part (count ∷ axes) (first ∷ more) zero span low high h get k =
    let same : first ≡ span = some_span first span get in
    let most = h.0 in
    let is : first.high ≡ span.high = ap (λ s. s.high) same in
    (omega (arith, most, is, k), h.1)
  where
    some_span : (m n : Span) → Some m ≡ Some n → m ≡ n
    some_span m n e = grind arith
within_part (count ∷ axes) (first ∷ more) (suc axis) span low high h get k =
    (h.0, within_part axes more axis span low high h.1 get k)

pub none_set : (block : List Span) (axis : ℕ) (span new : Span) → list_any is_none block ≡ false
    → slice_get block axis ≡ Some span
    → list_any is_none (slice_set block axis new) ≡ is_none new
none_set [] axis span new h get = absurd (grind arith)
none_set (first ∷ more) zero span new h get =
    or_right_none (is_none new) (list_any is_none more)
    (or_parts (is_none first) (list_any is_none more) h).1
  where
    or_right_none : (a b : Bool) → b ≡ false → (a || b) ≡ a
    or_right_none true b e = refl
    or_right_none false b e = e
none_set (first ∷ more) (suc axis) span new h get =
    let parts = or_parts (is_none first) (list_any is_none more) h in
    ap (λ b. b || list_any is_none (slice_set more axis new)) parts.0
    ∙ none_set more axis span new parts.1 get
