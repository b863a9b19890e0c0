-- The grid of a question over ranges: its blocks are cut as their boxes are, and its cells are
-- those of the question.
use Rattle.std.proofs.Common.{◌≡◌, ℕ, zero, suc, ◌+◌, ◌%◌, ◌≤◌, ◌<◌, Bool, true, false}
use Rattle.std.proofs.Common.{◌||◌, Option, Some, None}
use Rattle.std.proofs.Common.{List, [], ◌∷◌, ◌++◌, map, drop, length, refl, sym, ap, ◌∙◌, subst}
use Rattle.std.proofs.Common.{arith, nat_lt, ℤ}
use Rattle.std.specs.Prelude.{if◌then◌else◌, ◌-ℤ◌, get_or, int_lt, nat_eq, slice_get}
use Rattle.std.specs.Prelude.{slice_set, unsigned_abs}
use Rattle.std.specs.List.{list_any}
use Rattle.std.proofs.lemmas.Bool.Decides.{nat_tests}
use Rattle.std.proofs.lemmas.Int.{ints}
use Rattle.std.proofs.lemmas.Option.{none-some, same_Some}
use Rattle.exact_fraction.specs.Number.{Rational}
use Rattle.exact_fraction.specs.Order.{less}
use Rattle.interval_sets.specs.declared.interval.Bound.TheVariants as end
use Rattle.interval_sets.specs.declared.interval.Interval.{Interval}
use Rattle.rule_types.specs.declared.key.Key.{Key}
use Rattle.rule_types.specs.declared.rules.Rules.{Rules}
use Rattle.moment_pieces.specs.Pieces.{begins_piece, later_firsts, piece_firsts}
use Rattle.block_search.specs.declared.span.Span.{Span}
use Rattle.block_search.specs.Blocks.{IsWithin, is_none, one_piece, span_from, whole_block}
use Rattle.block_search.specs.Trees.{is_later_of, is_point_of}
use Rattle.verdict_meaning.specs.declared.cell.Cell.{Cell}
use Rattle.verdict_meaning.specs.declared.question.Question.{Question}
use Rattle.verdict_meaning.specs.declared.ranges.Ranges.{Ranges}
use Rattle.verdict_meaning.specs.Boxes.{first_box}
use Rattle.verdict_meaning.specs.Grids.{cell_count, cuts_of, grid_cells, inserted, rising}
use Rattle.verdict_meaning.specs.Premises.{start_of}
use Rattle.verdict_meaning.specs.Questions.{asked_numbers}
use Rattle.grid_blocks.specs.declared.grid.Grid.{Grid}
use Rattle.grid_blocks.specs.declared.grid.KeyCuts.{KeyCuts}
use Rattle.grid_blocks.specs.declared.grid.MomentPieces.{MomentPieces}
use Rattle.grid_blocks.specs.GridBoxes.{box_of, cut_at, interval_of, keys_of, lengths}
use Rattle.grid_blocks.specs.GridBoxes.{moment_lengths, moments_in, moments_of, piece_count}
use Rattle.grid_blocks.specs.GridBoxes.{part_of as part_on}
use Rattle.grid_blocks.specs.GridOrder.{IsInOrder}
use Rattle.grid_blocks.specs.GridsOf.{IsGridOf, IsMomentsOf, key_with_cuts}
use Rattle.grid_blocks.specs.BlockCuts.{IsKeyCut, IsMomentCut}
use Rattle.grid_blocks.proofs.PublicLaws.{cells-all, cells-number, orders-grid}
use Rattle.grid_blocks.proofs.PublicLaws.{key_parts-above, key_parts-below, key_parts-piece}
use Rattle.grid_blocks.proofs.PublicLaws.{key_parts-point, key_parts-split}
use Rattle.grid_blocks.proofs.PublicLaws.{moment_parts-before, moment_parts-from}
use Rattle.grid_blocks.proofs.PublicLaws.{moment_parts-inside, moment_parts-moments}
use Rattle.grid_trees.proofs.BlockParts.{HasParts, KeyParts, MomentParts, none_set, part_of}
use Rattle.grid_trees.proofs.RightVerdicts.{CoversRanges}

-- ---- runs of a block within the grid
run_within : (axes : List KeyCuts) (others : List ℕ) (block : List Span) (at : ℕ)
    (axis : KeyCuts) (span : Span)
    → IsWithin (map (λ one. piece_count one.cuts) axes ++ others) block
    → slice_get axes at ≡ Some axis → slice_get block at ≡ Some span
    → span.high ≤ piece_count axis.cuts
unfolding IsWithin
run_within [] others block at axis span within get run = absurd (none-some axis get)
run_within (first ∷ axes) others [] at axis span within get run = absurd (none-some span run)
run_within (first ∷ axes) others (one ∷ block) zero axis span within get run =
    let most : one.high ≤ piece_count first.cuts = within.0 in
    subst (λ s. s.high ≤ piece_count axis.cuts) (same_Some one span run)
    (subst (λ a. one.high ≤ piece_count a.cuts) (same_Some first axis get) most)
run_within (first ∷ axes) others (one ∷ block) (suc at) axis span within get run =
    run_within axes others block at axis span within.1 get run

key_within : (grid : Grid) (block : List Span) (at : ℕ) (axis : KeyCuts) (span : Span)
    → IsWithin (lengths grid) block → slice_get grid.keys at ≡ Some axis
    → slice_get block at ≡ Some span → span.high ≤ piece_count axis.cuts
unfolding lengths
key_within grid block at axis span within get run =
    run_within grid.keys (moment_lengths grid.moments) block at axis span within get run

-- the axis behind those of the keys is of moments
record IsMomentAxis (moments : Option MomentPieces) (count axis : ℕ) (span : Span) : Type 0 where
  pieces : MomentPieces
  is : moments ≡ Some pieces
  last : axis ≡ count
  most : span.high ≤ length pieces.firsts

only_moments : (moments : Option MomentPieces) (block : List Span) (axis : ℕ) (span : Span)
    → IsWithin (moment_lengths moments) block → slice_get block axis ≡ Some span
    → IsMomentAxis moments 0 axis span
unfolding IsWithin
only_moments moments [] axis span within get = absurd (none-some span get)
only_moments None (one ∷ block) axis span within get = absurd within
only_moments (Some pieces) (one ∷ []) zero span within get = record {
  pieces = pieces;
  is = refl;
  last = refl;
  most = subst (λ s. s.high ≤ length pieces.firsts) (same_Some one span get) within.0;
}
only_moments (Some pieces) (one ∷ []) (suc axis) span within get = absurd (none-some span get)
only_moments (Some pieces) (one ∷ other ∷ block) axis span within get = absurd within.1

moments_behind : (axes : List KeyCuts) (moments : Option MomentPieces) (block : List Span)
    (axis : ℕ) (span : Span)
    → IsWithin (map (λ one. piece_count one.cuts) axes ++ moment_lengths moments) block
    → length axes ≤ axis → slice_get block axis ≡ Some span
    → IsMomentAxis moments (length axes) axis span
unfolding IsWithin
moments_behind [] moments block axis span within past get =
    only_moments moments block axis span within get
moments_behind (first ∷ axes) moments [] axis span within past get = absurd (none-some span get)
moments_behind (first ∷ axes) moments (one ∷ block) zero span within past get =
    absurd (omega (arith, past))
moments_behind (first ∷ axes) moments (one ∷ block) (suc axis) span within past get =
    let more =
    moments_behind axes moments block axis span within.1 (omega (arith, past)) get in
    record {
      pieces = more.pieces;
      is = more.is;
      last = ap suc more.last;
      most = more.most;
    }

moment_axis : (grid : Grid) (block : List Span) (axis : ℕ) (span : Span)
    → IsWithin (lengths grid) block → nat_lt axis (length grid.keys) ≡ false
    → slice_get block axis ≡ Some span
    → IsMomentAxis grid.moments (length grid.keys) axis span
unfolding lengths
moment_axis grid block axis span within past get =
    moments_behind grid.keys grid.moments block axis span within
    (not_below axis (length grid.keys) past) get
  where
    not_below : (m n : ℕ) → nat_lt m n ≡ false → n ≤ m
    not_below m n e = grind (arith, nat_tests)

-- ---- cuts
-- a part of a box is that of the block's part
part_is : (grid : Grid) (block : List Span) (axis : ℕ) (span new : Span)
    → list_any is_none block ≡ false → slice_get block axis ≡ Some span
    → part_on grid block axis new ≡ part_of grid (slice_set block axis new)
part_is grid block axis span new some run =
    ap (λ none. if none then None else Some (box_of grid (slice_set block axis new)))
    (sym (none_set block axis span new some run))

key_parts : (grid : Grid) → IsInOrder grid → (block : List Span) (axis : ℕ) (span : Span)
    (at : ℕ) (cuts : KeyCuts) → IsWithin (lengths grid) block
    → list_any is_none block ≡ false → slice_get grid.keys axis ≡ Some cuts
    → slice_get block axis ≡ Some span → is_point_of span at ≡ true
    → KeyParts grid block axis span at cuts
key_parts grid order block axis span at cuts within some get run point =
    let cut : IsKeyCut grid block axis cuts span at =
    record {
      axis_is = get;
      span_is = run;
      within = key_within grid block axis cuts span within get run;
      point = point;
    } in
    record {
      found = key_parts-piece grid block axis cuts span at order cut;
      splits = key_parts-split grid block axis cuts span at order cut;
      below =
          key_parts-below grid block axis cuts span at order cut
          ∙ part_is grid block axis span (span_from span.low at) some run;
      middle =
          key_parts-point grid block axis cuts span at order cut
          ∙ part_is grid block axis span (one_piece at) some run;
      above =
          key_parts-above grid block axis cuts span at order cut
          ∙ part_is grid block axis span (span_from (at + 1) span.high) some run;
    }

last_parts : (grid : Grid) → IsInOrder grid → (block : List Span) (span : Span) (at : ℕ)
    (pieces : MomentPieces) → list_any is_none block ≡ false
    → slice_get block (length grid.keys) ≡ Some span → grid.moments ≡ Some pieces
    → span.high ≤ length pieces.firsts → is_later_of span at ≡ true
    → MomentParts grid block (length grid.keys) span at
last_parts grid order block span at pieces some run is most later =
    let cut : IsMomentCut grid block pieces span at =
    record { pieces_are = is; span_is = run; within = most; later = later } in
    record {
      pieces = pieces;
      is = is;
      first = (moments_in pieces span).0;
      last = (moments_in pieces span).1;
      found = moment_parts-moments grid block pieces span at cut;
      splits = moment_parts-inside grid block pieces span at order cut;
      before =
          moment_parts-before grid block pieces span at order cut
          ∙ part_is grid block (length grid.keys) span (span_from span.low at) some run;
      from =
          moment_parts-from grid block pieces span at order cut
          ∙ part_is grid block (length grid.keys) span (span_from at span.high) some run;
    }

moment_parts : (grid : Grid) → IsInOrder grid → (block : List Span) (axis : ℕ) (span : Span)
    (at : ℕ) → IsWithin (lengths grid) block → list_any is_none block ≡ false
    → nat_lt axis (length grid.keys) ≡ false → slice_get block axis ≡ Some span
    → is_later_of span at ≡ true → MomentParts grid block axis span at
moment_parts grid order block axis span at within some past run later =
    let moments = moment_axis grid block axis span within past run in
    subst (λ n. MomentParts grid block n span at) (sym moments.last)
    (last_parts grid order block span at moments.pieces some
    (subst (λ n. slice_get block n ≡ Some span) moments.last run) moments.is moments.most later)

has_parts : (grid : Grid) → IsInOrder grid → HasParts grid
has_parts grid order = record {
  keys = key_parts grid order;
  moments = moment_parts grid order;
}

-- ---- a grid has a cell
insert_some : (q p : Rational) (cuts more : List Rational) (b c : Bool)
    → 1
    ≤ length
    (if b then q ∷ p ∷ cuts
    else (if c then p ∷ more else p ∷ cuts))
insert_some q p cuts more true c = omega arith
insert_some q p cuts more false true = omega arith
insert_some q p cuts more false false = omega arith

inserted_some : (q : Rational) (cuts : List Rational) → 1 ≤ length (inserted q cuts)
unfolding inserted
inserted_some q [] = omega arith
inserted_some q (p ∷ cuts) =
    insert_some q p cuts (inserted q cuts) (less q p) (less p q)

-- a range with a low end has a cut
cuts_some : (x : Rules) (question : Question) (key : Key) (range : Interval) (p : Rational)
    (m : Bool) → range.low ≡ end.Bound p m → 1 ≤ length (cuts_of x question key range)
unfolding cuts_of rising
cuts_some x question key range p m low = rw low (inserted_some p _)

not_none : (low high : ℕ) → low < high → is_none (span_from low high) ≡ false
not_none low high h = grind (arith, nat_tests)

some_pieces : (cuts : List Rational) → 1 ≤ length cuts
    → is_none (span_from 0 (piece_count cuts)) ≡ false
some_pieces cuts h = not_none 0 (piece_count cuts) (omega (arith, h))

or_none : (a b : Bool) → a ≡ false → b ≡ false → (a || b) ≡ false
or_none true b e f = e
or_none false b e f = f

heads : {A : Type 0} (a b : A) (more others : List A) → (a ∷ more) ≡ (b ∷ others) → a ≡ b
heads a b more others e = same_Some a b (ap (λ list. slice_get list 0) e)

tails : {A : Type 0} (a b : A) (more others : List A) → (a ∷ more) ≡ (b ∷ others)
    → more ≡ others
tails a b more others e = ap (drop 1) e

-- an axis of a key has a piece: its cuts are those of a range with a low end
axis_some : (x : Rules) (question : Question) (axis : KeyCuts) (entry : Key × Interval)
    (span : Span) → key_with_cuts axis ≡ (entry.0, cuts_of x question entry.0 entry.1)
    → (axis.key, interval_of axis.cuts span) ≡ entry
    → is_none (span_from 0 (piece_count axis.cuts)) ≡ false
unfolding interval_of
axis_some x question axis entry span cuts whole =
    some_pieces axis.cuts
    (subst (λ list. 1 ≤ length list) (sym (ap (λ one. one.1) cuts))
    (cuts_some x question entry.0 entry.1 (cut_at axis.cuts span.low) (nat_eq (span.low % 2) 1)
    (sym (ap (λ one. one.1.low) whole))))

keys_some : (x : Rules) (question : Question) (axes : List KeyCuts)
    (entries : List (Key × Interval)) (others : List ℕ)
    → map key_with_cuts axes
    ≡ map (λ entry. (entry.0, cuts_of x question entry.0 entry.1)) entries
    → keys_of axes (whole_block (map (λ one. piece_count one.cuts) axes ++ others)) ≡ entries
    → list_any is_none (whole_block others) ≡ false
    → list_any is_none (whole_block (map (λ one. piece_count one.cuts) axes ++ others)) ≡ false
unfolding keys_of whole_block
keys_some x question [] entries others cuts whole some = some
keys_some x question (axis ∷ axes) [] others cuts whole some =
    absurd (none-some (key_with_cuts axis) (sym (ap (λ list. slice_get list 0) cuts)))
keys_some x question (axis ∷ axes) (entry ∷ entries) others cuts whole some =
    let span = span_from 0 (piece_count axis.cuts) in
    let later = map (λ one. piece_count one.cuts) axes ++ others in
    or_none (is_none span) (list_any is_none (whole_block later))
    (axis_some x question axis entry span
    (heads (key_with_cuts axis) (entry.0, cuts_of x question entry.0 entry.1)
    (map key_with_cuts axes)
    (map (λ entry. (entry.0, cuts_of x question entry.0 entry.1)) entries) cuts)
    (heads (axis.key, interval_of axis.cuts span) entry (keys_of axes (whole_block later)) entries
    whole))
    (keys_some x question axes entries others
    (tails (key_with_cuts axis) (entry.0, cuts_of x question entry.0 entry.1)
    (map key_with_cuts axes)
    (map (λ entry. (entry.0, cuts_of x question entry.0 entry.1)) entries) cuts)
    (tails (axis.key, interval_of axis.cuts span) entry (keys_of axes (whole_block later)) entries
    whole)
    some)

behind_keys : (axes : List KeyCuts) (others : List ℕ)
    → drop (length axes) (whole_block (map (λ one. piece_count one.cuts) axes ++ others))
    ≡ whole_block others
unfolding whole_block
behind_keys [] others = refl
behind_keys (axis ∷ axes) others = behind_keys axes others

-- the moments from a last one to itself have a piece
firsts_some : (firsts : List ℤ) (from to : ℤ) (later : List ℤ) (b : Bool) → int_lt to from ≡ b
    → firsts ≡ (if b then [] else from ∷ later) → (firsts ≡ [] → from ≡ to)
    → 1 ≤ length firsts
firsts_some firsts from to later true after is same =
    absurd (not_after from to after (same is))
  where
    not_after : (from to : ℤ) → int_lt to from ≡ true → from ≡ to → ⊥
    not_after from to e f = omega (arith, ints, e, f)
firsts_some firsts from to later false after is same =
    subst (λ list. 1 ≤ length list) (sym is) (omega arith)

moments_some : (x : Rules) (question : Question) (o : Option (ℤ × ℤ))
    (moments : Option MomentPieces) → IsMomentsOf x question o moments
    → moments_of moments (whole_block (moment_lengths moments)) ≡ o
    → list_any is_none (whole_block (moment_lengths moments)) ≡ false
unfolding moments_of whole_block piece_firsts
moments_some x question None None is whole = refl
moments_some x question None (Some pieces) is whole = absurd is
moments_some x question (Some span) None is whole = absurd is
moments_some x question (Some span) (Some pieces) is whole =
    let here =
    same_Some (moments_in pieces (span_from 0 (length pieces.firsts))) span whole in
    or_none (is_none (span_from 0 (length pieces.firsts))) false
    (not_none 0 (length pieces.firsts)
    (firsts_some pieces.firsts span.0 span.1
    (later_firsts (begins_piece x (asked_numbers x question) x.routing_step (start_of x)) span.0
    (unsigned_abs (span.1 -ℤ span.0)))
    (int_lt span.1 span.0) refl is.firsts
    (λ none.
    sym (ap (λ one. one.0) here)
    ∙ ap (λ list. get_or list 0 pieces.last) none
    ∙ is.last)))
    refl

grid_some : (x : Rules) (question : Question) (cell : Cell) (grid : Grid)
    → IsGridOf x question cell grid → list_any is_none (whole_block (lengths grid)) ≡ false
unfolding lengths box_of
grid_some x question cell grid is =
    let others = moment_lengths grid.moments in
    keys_some x question grid.keys cell.keys others is.keys (ap (λ one. one.keys) is.whole)
    (moments_some x question cell.moments grid.moments is.moments
    (sym (ap (moments_of grid.moments) (behind_keys grid.keys others))
    ∙ ap (λ one. one.moments) is.whole))

pub covers_ranges : (x : Rules) (ranges : Ranges) (question : Question) (grid : Grid)
    → IsGridOf x question (first_box x question ranges) grid
    → CoversRanges x ranges question grid
unfolding grid_cells cell_count
covers_ranges x ranges question grid is =
    let cell = first_box x question ranges in
    record {
      parts = has_parts grid (orders-grid x question ranges grid is);
      some = grid_some x question cell grid is;
      whole = is.whole;
      listed = cells-all x question cell grid is;
      counted = cells-number x question cell grid is;
    }
