-- The parts of a block's box are the boxes of the block's parts.
use Rattle.std.proofs.Common.{◌≡◌, ℕ, zero, suc, ◌+◌, ◌<◌, ◌≤◌, Bool, true, false, not, Option}
use Rattle.std.proofs.Common.{Some, None}
use Rattle.std.proofs.Common.{List, [], ◌∷◌, length, drop, map, pos, ◌-ℤ◌, refl, sym, ap, ap₂}
use Rattle.std.proofs.Common.{subst, ◌∙◌, arith}
use Rattle.std.specs.Prelude.{◌&&◌, slice_get, slice_set, if◌then◌else◌, int_le, IfSome}
use Rattle.std.proofs.lemmas.List.{drop-set, drop-set-lt}
use Rattle.std.proofs.lemmas.Bool.Decides.{nat_tests}
use Rattle.std.proofs.lemmas.Option.{get_or_from_slice_get, slice_get_within}
use Rattle.interval_sets.specs.Cuts.{IsRising}
use Rattle.interval_sets.specs.Intervals.{has_member, point_of}
use Rattle.block_search.specs.declared.span.Span.{Span}
use Rattle.block_search.specs.Blocks.{is_none, one_piece, span_from}
use Rattle.block_search.specs.Trees.{is_later_of}
use Rattle.verdict_meaning.specs.declared.cell.Cell.{Cell}
use Rattle.verdict_meaning.specs.Certificates.{above_of, below_of, can_split, part_at}
use Rattle.verdict_meaning.specs.Certificates.{part_through, part_with, with_piece}
use Rattle.verdict_meaning.specs.Reaches.{piece_in}
use Rattle.grid_blocks.specs.declared.grid.Grid.{Grid}
use Rattle.grid_blocks.specs.declared.grid.KeyCuts.{KeyCuts}
use Rattle.grid_blocks.specs.declared.grid.MomentPieces.{MomentPieces}
use Rattle.grid_blocks.specs.BlockCuts.{IsKeyCut, IsMomentCut}
use Rattle.grid_blocks.specs.GridBoxes.{box_of, cut_at, first_moment, interval_of, keys_of}
use Rattle.grid_blocks.specs.GridBoxes.{moments_in, moments_of, part_of, piece_count}
use Rattle.grid_blocks.specs.GridOrder.{AreDistinct, AreFirstsTo, IsInOrder, key_of}
use Rattle.grid_blocks.proofs.CutTests.{cut_in_run, point_facts, run_members, split_at}
use Rattle.grid_blocks.proofs.KeyParts.{piece_of_axis, with_axis}
use Rattle.grid_blocks.proofs.MomentParts.{between_moments, end_is, through}
use Rattle.grid_blocks.proofs.Records.{cell_with}
use Rattle.grid_blocks.proofs.RunParts.{above_is, below_is, point_is}

-- ---- an axis of a key
member_part : (b none : Bool) (x : Cell) (y : Cell) → b ≡ not none → x ≡ y
    → (if b then Some x else None) ≡ (if none then None else Some y)
member_part b true x y is same = ap (λ t. if t then Some x else None) is
member_part b false x y is same = ap (λ t. if t then Some x else None) is ∙ ap Some same

pub part_of_axis : (grid : Grid) (block : List Span) (at : ℕ) (axis : KeyCuts) (new : Span)
    → IsRising axis.cuts → AreDistinct (map key_of grid.keys)
    → slice_get grid.keys at ≡ Some axis → at < length block
    → new.low ≤ piece_count axis.cuts → new.high ≤ piece_count axis.cuts
    → part_with axis.key (interval_of axis.cuts new) (box_of grid block)
    ≡ part_of grid block at new
unfolding part_with box_of
part_of_axis grid block at axis new rises distinct get within low high =
    let count = length grid.keys in
    let earlier : at < count = slice_get_within grid.keys at axis get in
    let piece = interval_of axis.cuts new in
    member_part (has_member piece.low piece.high) (is_none new)
    (cell_with (with_piece axis.key piece (keys_of grid.keys block))
    (moments_of grid.moments (drop count block)))
    (box_of grid (slice_set block at new))
    (run_members axis.cuts new rises low high)
    (ap₂ cell_with (with_axis grid.keys block at axis new distinct get within)
    (ap (moments_of grid.moments) (sym (drop-set-lt count block at new earlier))))

-- ---- the axis of moments
keys_before : (axes : List KeyCuts) (block : List Span) (new : Span)
    → keys_of axes (slice_set block (length axes) new) ≡ keys_of axes block
unfolding keys_of
keys_before [] block new = refl
keys_before (axis ∷ axes) [] new = refl
keys_before (axis ∷ axes) (span ∷ block) new =
    ap (λ more. (axis.key, interval_of axis.cuts span) ∷ more) (keys_before axes block new)

moments_set : (moments : Option MomentPieces) (pieces : MomentPieces) (block : List Span) (at : ℕ)
    (new : Span) → moments ≡ Some pieces → at < length block
    → moments_of moments (drop at (slice_set block at new)) ≡ Some (moments_in pieces new)
unfolding moments_of
moments_set moments pieces block at new is within =
    ap₂ moments_of is (drop-set block at new within)

moments_got : (pieces : MomentPieces) (block : List Span) (at : ℕ) (span : Span)
    → slice_get block at ≡ Some span
    → moments_of (Some pieces) (drop at block) ≡ Some (moments_in pieces span)
unfolding moments_of
moments_got pieces [] at span get = absurd (grind arith)
moments_got pieces (one ∷ block) zero span get =
    ap (λ s. Some (moments_in pieces s)) (same one span get)
  where
    same : (a b : Span) → Some a ≡ Some b → a ≡ b
    same a b e = grind arith
moments_got pieces (one ∷ block) (suc at) span get = moments_got pieces block at span get

pub moments_of_box : (grid : Grid) (pieces : MomentPieces) (block : List Span) (span : Span)
    → grid.moments ≡ Some pieces → slice_get block (length grid.keys) ≡ Some span
    → (box_of grid block).moments ≡ Some (moments_in pieces span)
unfolding box_of
moments_of_box grid pieces block span is get =
    ap (λ moments. moments_of moments (drop (length grid.keys) block)) is
    ∙ moments_got pieces block (length grid.keys) span get

-- a run of moments in the place of another
run_part : (grid : Grid) (pieces : MomentPieces) (block : List Span) (new : Span)
    → grid.moments ≡ Some pieces → AreFirstsTo pieces.last pieces.firsts
    → length grid.keys < length block → new.low < new.high
    → new.high ≤ length pieces.firsts
    → part_through (moments_in pieces new).0 (moments_in pieces new).1 (box_of grid block)
    ≡ Some (box_of grid (slice_set block (length grid.keys) new))
unfolding part_through box_of
run_part grid pieces block new is order within some high =
    let span = moments_in pieces new in
    let here = cell_with (keys_of grid.keys block) (Some span) in
    ap (λ b. if b then Some here else None) (through pieces new order some high)
    ∙ ap Some
    (ap₂ cell_with (sym (keys_before grid.keys block new))
    (sym (moments_set grid.moments pieces block (length grid.keys) new is within)))

pub part_before : (grid : Grid) (pieces : MomentPieces) (block : List Span) (span : Span) (at : ℕ)
    → grid.moments ≡ Some pieces → AreFirstsTo pieces.last pieces.firsts
    → slice_get block (length grid.keys) ≡ Some span → span.low < at → at < span.high
    → span.high ≤ length pieces.firsts
    → part_through (moments_in pieces span).0 (first_moment pieces at -ℤ pos 1) (box_of grid block)
    ≡ Some (box_of grid (slice_set block (length grid.keys) (span_from span.low at)))
part_before grid pieces block span at is order get h k within =
    ap (λ last. part_through (moments_in pieces span).0 last (box_of grid block))
    (sym (end_is pieces at (omega (arith, k, within))))
    ∙ run_part grid pieces block (span_from span.low at) is order
    (slice_get_within block (length grid.keys) span get) h (omega (arith, k, within))

pub part_from : (grid : Grid) (pieces : MomentPieces) (block : List Span) (span : Span) (at : ℕ)
    → grid.moments ≡ Some pieces → AreFirstsTo pieces.last pieces.firsts
    → slice_get block (length grid.keys) ≡ Some span → span.low < at → at < span.high
    → span.high ≤ length pieces.firsts
    → part_through (first_moment pieces at) (moments_in pieces span).1 (box_of grid block)
    ≡ Some (box_of grid (slice_set block (length grid.keys) (span_from at span.high)))
part_from grid pieces block span at is order get h k within =
    run_part grid pieces block (span_from at span.high) is order
    (slice_get_within block (length grid.keys) span get) k within

-- ---- the parts at a cut of a key
axis_rises : (grid : Grid) (number : ℕ) (axis : KeyCuts) → IsInOrder grid
    → slice_get grid.keys number ≡ Some axis → IsRising axis.cuts
axis_rises grid number axis order get =
    subst (λ a. IsRising a.cuts) (get_or_from_slice_get grid.keys number axis axis get)
    (order.cuts number axis (slice_get_within grid.keys number axis get))

pub key_piece : (grid : Grid) (block : List Span) (number : ℕ) (axis : KeyCuts) (span : Span)
    (piece : ℕ) → IsInOrder grid → IsKeyCut grid block number axis span piece
    → piece_in axis.key (box_of grid block).keys ≡ Some (interval_of axis.cuts span)
unfolding box_of
key_piece grid block number axis span piece order at =
    piece_of_axis grid.keys block number axis span order.keys at.axis_is at.span_is

pub key_split : (grid : Grid) (block : List Span) (number : ℕ) (axis : KeyCuts) (span : Span)
    (piece : ℕ) → IsInOrder grid → IsKeyCut grid block number axis span piece
    → can_split (interval_of axis.cuts span) (cut_at axis.cuts piece) ≡ true
key_split grid block number axis span piece order at =
    split_at axis.cuts span piece (axis_rises grid number axis order at.axis_is) at.within at.point

-- a run of the axis in the place of another one
new_run : (grid : Grid) (block : List Span) (number : ℕ) (axis : KeyCuts) (span : Span)
    (piece : ℕ) (new : Span) → IsInOrder grid → IsKeyCut grid block number axis span piece
    → new.low ≤ span.high → new.high ≤ span.high
    → part_with axis.key (interval_of axis.cuts new) (box_of grid block)
    ≡ part_of grid block number new
new_run grid block number axis span piece new order at low high =
    let within = at.within in
    part_of_axis grid block number axis new (axis_rises grid number axis order at.axis_is)
    order.keys at.axis_is (slice_get_within block number span at.span_is)
    (omega (arith, within, low)) (omega (arith, within, high))

pub key_below : (grid : Grid) (block : List Span) (number : ℕ) (axis : KeyCuts) (span : Span)
    (piece : ℕ) → IsInOrder grid → IsKeyCut grid block number axis span piece
    → part_with axis.key (below_of (interval_of axis.cuts span) (cut_at axis.cuts piece))
    (box_of grid block)
    ≡ part_of grid block number (span_from span.low piece)
key_below grid block number axis span piece order at =
    let point = point_facts span piece at.point in
    let wide = point.wide in
    let high = point.below_high in
    ap (λ new. part_with axis.key new (box_of grid block))
    (below_is axis.cuts span piece point.even)
    ∙ new_run grid block number axis span piece (span_from span.low piece) order at
    (omega (arith, wide)) (omega (arith, high))

pub key_point : (grid : Grid) (block : List Span) (number : ℕ) (axis : KeyCuts) (span : Span)
    (piece : ℕ) → IsInOrder grid → IsKeyCut grid block number axis span piece
    → part_at axis.key (interval_of axis.cuts span) (cut_at axis.cuts piece) (box_of grid block)
    ≡ part_of grid block number (one_piece piece)
unfolding part_at
key_point grid block number axis span piece order at =
    let point = point_facts span piece at.point in
    let high = point.below_high in
    let cut = cut_at axis.cuts piece in
    ap (λ b. if b then part_with axis.key (point_of cut) (box_of grid block) else None)
    (cut_in_run axis.cuts span piece (axis_rises grid number axis order at.axis_is) at.within
    at.point)
    ∙ ap (λ new. part_with axis.key new (box_of grid block)) (point_is axis.cuts piece point.even)
    ∙ new_run grid block number axis span piece (one_piece piece) order at
    (omega (arith, high)) (omega (arith, high))

pub key_above : (grid : Grid) (block : List Span) (number : ℕ) (axis : KeyCuts) (span : Span)
    (piece : ℕ) → IsInOrder grid → IsKeyCut grid block number axis span piece
    → part_with axis.key (above_of (interval_of axis.cuts span) (cut_at axis.cuts piece))
    (box_of grid block)
    ≡ part_of grid block number (span_from (piece + 1) span.high)
key_above grid block number axis span piece order at =
    let point = point_facts span piece at.point in
    let high = point.below_high in
    ap (λ new. part_with axis.key new (box_of grid block))
    (above_is axis.cuts span piece point.even)
    ∙ new_run grid block number axis span piece (span_from (piece + 1) span.high) order at
    (omega (arith, high)) (omega arith)

-- ---- the parts at a cut of the moments
pub moments_are : (grid : Grid) (block : List Span) (pieces : MomentPieces) (span : Span)
    (piece : ℕ) → IsMomentCut grid block pieces span piece
    → (box_of grid block).moments ≡ Some (moments_in pieces span)
moments_are grid block pieces span piece at =
    moments_of_box grid pieces block span at.pieces_are at.span_is

firsts_rise : (grid : Grid) (pieces : MomentPieces) → IsInOrder grid → grid.moments ≡ Some pieces
    → AreFirstsTo pieces.last pieces.firsts
firsts_rise grid pieces order is =
    subst (λ moments. IfSome moments (λ found. AreFirstsTo found.last found.firsts)) is
    order.moments

record IsLater (span : Span) (piece : ℕ) : Type 0 where
  pub from_low : span.low < piece
  pub below_high : piece < span.high

later_is : (span : Span) (piece : ℕ) → is_later_of span piece ≡ true → IsLater span piece
later_is span piece h =
    record { from_low = grind (arith, nat_tests); below_high = grind (arith, nat_tests) }

some_run : (span : Span) (x : Cell) → span.low < span.high
    → Some x ≡ (if is_none span then None else Some x)
some_run span x h =
    let some : is_none span ≡ false = grind (arith, nat_tests) in
    ap (λ none. if none then None else Some x) (sym some)

pub moment_inside : (grid : Grid) (block : List Span) (pieces : MomentPieces) (span : Span)
    (piece : ℕ) → IsInOrder grid → IsMomentCut grid block pieces span piece
    → (int_le (moments_in pieces span).0 (first_moment pieces piece)
    && int_le (first_moment pieces piece) (moments_in pieces span).1) ≡ true
moment_inside grid block pieces span piece order at =
    let later = later_is span piece at.later in
    between_moments pieces span piece (firsts_rise grid pieces order at.pieces_are) later.from_low
    later.below_high at.within

pub moment_before : (grid : Grid) (block : List Span) (pieces : MomentPieces) (span : Span)
    (piece : ℕ) → IsInOrder grid → IsMomentCut grid block pieces span piece
    → part_through (moments_in pieces span).0 (first_moment pieces piece -ℤ pos 1)
    (box_of grid block)
    ≡ part_of grid block (length grid.keys) (span_from span.low piece)
moment_before grid block pieces span piece order at =
    let later = later_is span piece at.later in
    part_before grid pieces block span piece at.pieces_are
    (firsts_rise grid pieces order at.pieces_are) at.span_is later.from_low later.below_high
    at.within
    ∙ some_run (span_from span.low piece)
    (box_of grid (slice_set block (length grid.keys) (span_from span.low piece))) later.from_low

pub moment_from : (grid : Grid) (block : List Span) (pieces : MomentPieces) (span : Span)
    (piece : ℕ) → IsInOrder grid → IsMomentCut grid block pieces span piece
    → part_through (first_moment pieces piece) (moments_in pieces span).1 (box_of grid block)
    ≡ part_of grid block (length grid.keys) (span_from piece span.high)
moment_from grid block pieces span piece order at =
    let later = later_is span piece at.later in
    part_from grid pieces block span piece at.pieces_are
    (firsts_rise grid pieces order at.pieces_are) at.span_is later.from_low later.below_high
    at.within
    ∙ some_run (span_from piece span.high)
    (box_of grid (slice_set block (length grid.keys) (span_from piece span.high)))
    later.below_high
