-- A grid that is put together of the cuts of a box is that of the box.
use Rattle.std.proofs.Common.{◌≡◌, ℕ, ◌*◌, ◌^◌, ◌<◌, ◌≤◌, Bool, true, false, List, [], ◌∷◌, ◌++◌, length, drop, get_or, map, refl, sym, subst, ap, ap₂, ◌∙◌, arith, ℤ, ◌-ℤ◌, ◌≤ℤ◌, int_lt, unsigned_abs, Option, Some, None}
use Rattle.std.proofs.lemmas.Int.{ints}
use Rattle.std.proofs.lemmas.List.{length-map, map-append}
use Rattle.std.proofs.lemmas.List.Elements.{All-append, All-cons, All-head, All-map, All-nil, All-tail}
use Rattle.std.proofs.lemmas.Option.{slice_get_past}
use Rattle.std.proofs.Math.Nat.{le-mul_of_pos_right, mul_comm}
use Rattle.std.specs.Prelude.{All, IfSome, filter, if◌then◌else◌}
use Rattle.std.specs.List.{flat_map}
use Rattle.exact_fraction.specs.Number.{Rational}
use Rattle.exact_fraction.specs.Order.{less}
use Rattle.interval_sets.specs.declared.interval.Bound.{Bound}
use Rattle.interval_sets.specs.declared.interval.Bound.TheVariants as end
use Rattle.interval_sets.specs.declared.interval.Interval.{Interval}
use Rattle.interval_sets.specs.Intervals.{lies_in}
use Rattle.rule_types.specs.declared.key.Key.{Key}
use Rattle.rule_types.specs.declared.rules.Rules.{Rules}
use Rattle.moment_pieces.specs.Pieces.{begins_piece, later_firsts, piece_firsts}
use Rattle.verdict_meaning.specs.declared.cell.Cell.{Cell}
use Rattle.verdict_meaning.specs.declared.question.Question.{Question}
use Rattle.verdict_meaning.specs.FitRanges.{AreEnds}
use Rattle.verdict_meaning.specs.Grids.{condition_cuts, cuts_of, end_numbers, inserted, limit_cuts, moment_pieces, rising, spans_to}
use Rattle.verdict_meaning.specs.Premises.{start_of}
use Rattle.verdict_meaning.specs.Questions.{asked_numbers, asked_rules}
use Rattle.verdict_meaning.specs.Verdicts.{most_cells}
use Rattle.block_search.specs.Blocks.{span_from, whole_block}
use Rattle.grid_blocks.specs.declared.grid.Grid.{Grid}
use Rattle.grid_blocks.specs.declared.grid.KeyCuts.{KeyCuts}
use Rattle.grid_blocks.specs.declared.grid.MomentPieces.{MomentPieces}
use Rattle.grid_blocks.specs.GridBoxes.{box_of, end_before, keys_of, lengths, moment_lengths, moments_of, piece_count}
use Rattle.grid_blocks.specs.GridsOf.{HasFewPieces, IsGridOf, IsMomentsOf, key_with_cuts}
use Rattle.grid_cuts.specs.declared.moments.GridMoments.{GridMoments}
use Rattle.grid_cuts.specs.internal.Gridded.{AreAxesOf, AreMomentsOf, EndsAt, IsCutWhole, IsGridIn, IsPut, axis_of, cells_in, piece_product, pieces_from}
use Rattle.grid_cuts.specs.declared.end.GridEnd.{GridEnd}
use Rattle.grid_cuts.proofs.CellCounts.{few_each, product_is, product_some, spans_length}

-- ---- keys

pub keys_are : (x : Rules) (question : Question) (entries : List (Key × Interval))
    → map key_with_cuts (map (axis_of x question) entries)
    ≡ map (λ entry. (entry.0, cuts_of x question entry.0 entry.1)) entries
keys_are x question [] = refl
keys_are x question (entry ∷ entries) =
    ap (λ list. (entry.0, cuts_of x question entry.0 entry.1) ∷ list)
    (keys_are x question entries)

abbrev counts_of : List KeyCuts → List ℕ
counts_of axes = map (λ axis. piece_count axis.cuts) axes

keys_whole : (x : Rules) (question : Question) (entries : List (Key × Interval)) (rest : List ℕ)
    → All (λ entry. AreEnds entry.1.low entry.1.high) entries
    → All (IsCutWhole x question) entries
    → keys_of (map (axis_of x question) entries)
    (whole_block (counts_of (map (axis_of x question) entries) ++ rest))
    ≡ entries
unfolding keys_of whole_block
keys_whole x question [] rest ends whole = refl
keys_whole x question (entry ∷ entries) rest ends whole =
    ap₂ (λ (range : Interval) (list : List (Key × Interval)). (entry.0, range) ∷ list)
    (All-head (IsCutWhole x question) entry entries whole
    (All-head (λ other. AreEnds other.1.low other.1.high) entry entries ends))
    (keys_whole x question entries rest
    (All-tail (λ other. AreEnds other.1.low other.1.high) entry entries ends)
    (All-tail (IsCutWhole x question) entry entries whole))

past_keys : (axes : List KeyCuts) (rest : List ℕ)
    → drop (length axes) (whole_block (counts_of axes ++ rest)) ≡ whole_block rest
unfolding whole_block
past_keys [] rest = refl
past_keys (axis ∷ axes) rest = past_keys axes rest

-- one more key with its cuts
pub axes_more : (x : Rules) (question : Question) (so_far all : List (Key × Interval))
    (entry : Key × Interval) (before after : List KeyCuts) (axis : KeyCuts)
    → all ≡ so_far ++ entry ∷ [] → AreAxesOf x question so_far before
    → axis ≡ axis_of x question entry → IsCutWhole x question entry
    → after ≡ before ++ axis ∷ [] → AreAxesOf x question all after
axes_more x question so_far all entry before after axis is h here whole pushed = record {
  are =
      pushed ∙ ap₂ (λ list one. list ++ one ∷ []) h.are here
      ∙ sym (map-append (axis_of x question) so_far (entry ∷ []))
      ∙ ap (map (axis_of x question)) (sym is);
  whole =
      subst (All (IsCutWhole x question)) (sym is)
      (All-append (IsCutWhole x question) so_far (entry ∷ []) h.whole
      (All-cons (IsCutWhole x question) entry [] whole (All-nil (IsCutWhole x question))));
}

-- each range has a cut
either_some : (a b : Bool) (q p : Rational) (cuts later : List Rational)
    → 0 < length (if a then q ∷ p ∷ cuts else (if b then p ∷ later else p ∷ cuts))
either_some true b q p cuts later = omega arith
either_some false true q p cuts later = omega arith
either_some false false q p cuts later = omega arith

inserted_some : (q : Rational) (cuts : List Rational) → 0 < length (inserted q cuts)
unfolding inserted
inserted_some q [] = omega arith
inserted_some q (p ∷ cuts) = either_some (less q p) (less p q) q p cuts (inserted q cuts)

cuts_some : (low high : Bound) (others : List Rational) → AreEnds low high
    → 0 < length (rising (end_numbers low ++ end_numbers high ++ others))
unfolding rising
cuts_some (end.Bound p false) (end.Bound q false) others ends =
    inserted_some p (inserted q (rising others))
cuts_some (end.Bound p false) (end.Bound q true) others ends = absurd ends
cuts_some (end.Bound p false) end.NoBound others ends = absurd ends
cuts_some (end.Bound p true) high others ends = absurd ends
cuts_some end.NoBound high others ends = absurd ends

-- what lies in a range beside its ends
others_of : Rules → Question → Key × Interval → List Rational
others_of x question entry =
    filter (lies_in entry.1)
    (limit_cuts entry.0 question
    ++ flat_map
    (λ rule. flat_map (condition_cuts x.names x.routing_step entry.0) rule.conditions)
    (asked_rules x question))

some_pieces : (x : Rules) (question : Question) (entry : Key × Interval)
    → AreEnds entry.1.low entry.1.high
    → 0 < piece_count (cuts_of x question entry.0 entry.1)
unfolding cuts_of others_of
some_pieces x question entry ends =
    let some = cuts_some entry.1.low entry.1.high (others_of x question entry) ends in
    omega (arith, some)

axes_some : (x : Rules) (question : Question) (entries : List (Key × Interval))
    → All (λ entry. AreEnds entry.1.low entry.1.high) entries
    → All (λ axis. 0 < piece_count axis.cuts) (map (axis_of x question) entries)
axes_some x question entries ends =
    All-map (λ axis. 0 < piece_count axis.cuts) (axis_of x question) entries
    (λ k d within. some_pieces x question (get_or entries k d) (ends k d within))

-- ---- moments

no_earlier : (from to : ℤ) → from ≤ℤ to → int_lt to from ≡ false
no_earlier from to order = by_test (int_lt to from) refl
  where
    by_test : (t : Bool) → int_lt to from ≡ t → t ≡ false
    by_test true e = absurd (omega (arith, ints, e, order))
    by_test false e = refl

firsts_begin : (x : Rules) (asked : List ℕ) (step : Rational) (start from to : ℤ)
    → from ≤ℤ to
    → piece_firsts x asked step start from to
    ≡ from ∷ later_firsts (begins_piece x asked step start) from (unsigned_abs (to -ℤ from))
unfolding piece_firsts
firsts_begin x asked step start from to order =
    ap
    (λ t.
    if t then []
    else from ∷ later_firsts (begins_piece x asked step start) from (unsigned_abs (to -ℤ from)))
    (no_earlier from to order)

abbrev firsts_of : Rules → List ℕ → ℤ × ℤ → List ℤ
firsts_of x asked span = piece_firsts x asked x.routing_step (start_of x) span.0 span.1

-- all pieces together are the run of moments
span_by : (firsts : List ℤ) (first : ℤ) (later : List ℤ) (last : ℤ) → firsts ≡ first ∷ later
    → moments_of (Some (pieces_from firsts last))
    (span_from 0 (length firsts) ∷ [])
    ≡ Some (first, last)
unfolding moments_of
span_by firsts first later last is =
    ap₂ (λ a b. Some (a, b)) (ap (λ list. get_or list 0 last) is)
    (ap (end_before (pieces_from firsts last))
    (slice_get_past firsts (length firsts) (omega arith)))

MomentsWhole : Option (ℤ × ℤ) → Option MomentPieces → Type 0
MomentsWhole span pieces =
    moments_of pieces (whole_block (moment_lengths pieces)) ≡ span

span_whole : (x : Rules) (asked : List ℕ) (span : ℤ × ℤ) → span.0 ≤ℤ span.1
    → MomentsWhole (Some span) (Some (pieces_from (firsts_of x asked span) span.1))
unfolding MomentsWhole whole_block
span_whole x asked span order =
    span_by (piece_firsts x asked x.routing_step (start_of x) span.0 span.1) span.0
    (later_firsts (begins_piece x asked x.routing_step (start_of x)) span.0
    (unsigned_abs (span.1 -ℤ span.0)))
    span.1
    (firsts_begin x asked x.routing_step (start_of x) span.0 span.1 order)

-- what is known of the moments of a grid
record MomentsFit (x : Rules) (question : Question) (span : Option (ℤ × ℤ))
    (pieces : Option MomentPieces) (count : ℕ) : Type 0 where
  are : IsMomentsOf x question span pieces
  whole : MomentsWhole span pieces
  short : All (λ n. n ≤ count) (moment_lengths pieces)

moments_count : (x : Rules) (question : Question) (asked : List ℕ) (span : Option (ℤ × ℤ))
    (moments : GridMoments) → asked ≡ asked_numbers x question
    → AreMomentsOf x asked span moments
    → moments.count ≡ length (moment_pieces x question span)
moments_count x question asked None moments is h = h.1
moments_count x question asked (Some span) moments is h =
    h.count ∙ ap (λ numbers. length (firsts_of x numbers span)) is
    ∙ sym (spans_length span.1 (firsts_of x (asked_numbers x question) span))
    ∙ sym
    (length-map (spans_to span.1 (firsts_of x (asked_numbers x question) span))
    (λ piece. Some piece))

moments_some : (x : Rules) (asked : List ℕ) (span : Option (ℤ × ℤ)) (moments : GridMoments)
    → IfSome span (λ s. s.0 ≤ℤ s.1) → AreMomentsOf x asked span moments → 0 < moments.count
moments_some x asked None moments order h = omega (arith, h.1)
moments_some x asked (Some span) moments order h =
    let some : 0 < length (firsts_of x asked span) =
    subst (λ list. 0 < length list)
    (sym (firsts_begin x asked x.routing_step (start_of x) span.0 span.1 order)) (omega arith) in
    omega (arith, h.count, some)

moments_fit : (x : Rules) (question : Question) (asked : List ℕ) (span : Option (ℤ × ℤ))
    (moments : GridMoments) → asked ≡ asked_numbers x question
    → IfSome span (λ s. s.0 ≤ℤ s.1) → AreMomentsOf x asked span moments
    → moments.count ≤ most_cells
    → MomentsFit x question span moments.pieces moments.count
unfolding MomentsWhole moments_of
moments_fit x question asked None moments is order h few =
    subst (λ pieces. MomentsFit x question None pieces moments.count) (sym h.0)
    (record { are = tt; whole = refl; short = All-nil (λ n. n ≤ moments.count) })
moments_fit x question asked (Some span) moments is order h few =
    subst (λ pieces. MomentsFit x question (Some span) pieces moments.count)
    (sym (h.pieces few))
    (record {
      are =
          record {
            firsts = ap (λ numbers. firsts_of x numbers span) is;
            last = refl;
          };
      whole = span_whole x asked span order;
      short =
          All-cons (λ n. n ≤ moments.count) (length (firsts_of x asked span)) []
          (omega (arith, h.count)) (All-nil (λ n. n ≤ moments.count));
    })

-- ---- grids

cell_by : List (Key × Interval) → Option (ℤ × ℤ) → Cell
cell_by keys moments = record { keys = keys; moments = moments }

grid_by : List KeyCuts → Option MomentPieces → Grid
grid_by keys moments = record { keys = keys; moments = moments }

whole_by : (x : Rules) (question : Question) (entries : List (Key × Interval))
    (span : Option (ℤ × ℤ)) (pieces : Option MomentPieces)
    → All (λ entry. AreEnds entry.1.low entry.1.high) entries
    → All (IsCutWhole x question) entries → MomentsWhole span pieces
    → box_of (grid_by (map (axis_of x question) entries) pieces)
    (whole_block (lengths (grid_by (map (axis_of x question) entries) pieces)))
    ≡ cell_by entries span
unfolding box_of lengths MomentsWhole grid_by cell_by
whole_by x question entries span pieces ends whole moments =
    ap₂ (λ (keys : List (Key × Interval)) (all : Option (ℤ × ℤ)).
    record { keys = keys; moments = all })
    (keys_whole x question entries (moment_lengths pieces) ends whole)
    (ap (moments_of pieces)
    (past_keys (map (axis_of x question) entries) (moment_lengths pieces))
    ∙ moments)

grid_is : (x : Rules) (question : Question) (entries : List (Key × Interval))
    (span : Option (ℤ × ℤ)) (pieces : Option MomentPieces) (count : ℕ)
    → All (λ entry. AreEnds entry.1.low entry.1.high) entries
    → All (IsCutWhole x question) entries → MomentsFit x question span pieces count
    → IsGridOf x question (cell_by entries span)
    (grid_by (map (axis_of x question) entries) pieces)
unfolding grid_by cell_by
grid_is x question entries span pieces count ends whole moments = record {
  keys = keys_are x question entries;
  moments = moments.are;
  whole = whole_by x question entries span pieces ends whole moments.whole;
}

short_by : (axes : List KeyCuts) (pieces : Option MomentPieces) (count cells : ℕ)
    → All (λ axis. piece_count axis.cuts ≤ cells) axes → count ≤ cells
    → All (λ n. n ≤ count) (moment_lengths pieces) → cells ≤ most_cells
    → HasFewPieces (grid_by axes pieces)
unfolding lengths grid_by
short_by axes pieces count cells keys moments all few =
    All-append (λ n. n < 2 ^ 32) (counts_of axes) (moment_lengths pieces)
    (All-map (λ n. n < 2 ^ 32) (λ axis. piece_count axis.cuts) axes
    (λ k d within. small _ cells (keys k d within) few))
    (λ k d within. small _ count (all k d within) (chain count cells most_cells moments few))
  where
    chain : (a b c : ℕ) → a ≤ b → b ≤ c → a ≤ c
    chain a b c h k = omega arith

    small : (n top : ℕ) → n ≤ top → top ≤ most_cells → n < 2 ^ 32
    small n top h k = omega arith

count_within : (product count cells : ℕ) → 0 < product → product * count ≤ cells
    → count ≤ cells
count_within product count cells some h =
    let least : count ≤ count * product = le-mul_of_pos_right count some in
    let same : count * product ≡ product * count = mul_comm count product in
    omega (arith, least, same, h)

cells_are : (x : Rules) (question : Question) (cell : Cell) (axes : List KeyCuts)
    (count : ℕ) → AreAxesOf x question cell.keys axes
    → count ≡ length (moment_pieces x question cell.moments)
    → piece_product axes * count ≡ cells_in x question cell
cells_are x question cell axes count h is =
    ap₂ (λ n m. n * m) (ap piece_product h.are ∙ sym (product_is x question cell.keys)) is

grid_same : (g : Grid) (keys : List KeyCuts) (pieces : Option MomentPieces)
    → g.keys ≡ keys → g.moments ≡ pieces → grid_by keys pieces ≡ g
unfolding grid_by
grid_same g keys pieces e f =
    ap₂ (λ (list : List KeyCuts) (all : Option MomentPieces).
    record { keys = list; moments = all })
    (sym e) (sym f)

pub put_grid : (x : Rules) (question : Question) (cell : Cell) (asked : List ℕ)
    (axes : List KeyCuts) (moments : GridMoments) (grid : Grid)
    → All (λ entry. AreEnds entry.1.low entry.1.high) cell.keys
    → IfSome cell.moments (λ span. span.0 ≤ℤ span.1)
    → asked ≡ asked_numbers x question → AreAxesOf x question cell.keys axes
    → AreMomentsOf x asked cell.moments moments → IsPut axes moments grid
    → IsGridIn x question cell grid
unfolding cell_by
put_grid x question cell asked axes moments grid ends order is h k put =
    let some : All (λ axis. 0 < piece_count axis.cuts) axes =
    subst (All (λ axis. 0 < piece_count axis.cuts)) (sym h.are)
    (axes_some x question cell.keys ends) in
    let count = moments_some x asked cell.moments moments order k in
    let within : moments.count ≤ piece_product axes * moments.count =
    count_within (piece_product axes) moments.count (piece_product axes * moments.count)
    (product_some axes some) (omega arith) in
    let few : moments.count ≤ most_cells = omega (arith, within, put.few) in
    let fit = moments_fit x question asked cell.moments moments is order k few in
    let same : grid_by (map (axis_of x question) cell.keys) moments.pieces ≡ grid =
    grid_same grid (map (axis_of x question) cell.keys) moments.pieces
    (put.keys ∙ h.are) put.moments_are in
    record {
      is =
          subst (IsGridOf x question cell) same
          (grid_is x question cell.keys cell.moments moments.pieces moments.count ends h.whole fit);
      few =
          subst (λ n. n ≤ most_cells)
          (cells_are x question cell axes moments.count h
          (moments_count x question asked cell.moments moments is k))
          put.few;
      short =
          subst HasFewPieces same
          (subst (λ list. HasFewPieces (grid_by list moments.pieces)) h.are
          (short_by axes moments.pieces moments.count (piece_product axes * moments.count)
          (few_each axes moments.count some count) within fit.short put.few));
    }

pub put_end : (x : Rules) (question : Question) (cell : Cell) (asked : List ℕ)
    (axes : List KeyCuts) (moments : GridMoments) (end : GridEnd)
    → asked ≡ asked_numbers x question → AreAxesOf x question cell.keys axes
    → AreMomentsOf x asked cell.moments moments
    → EndsAt (piece_product axes * moments.count) end
    → EndsAt (cells_in x question cell) end
put_end x question cell asked axes moments end is h k at =
    subst (λ cells. EndsAt cells end)
    (cells_are x question cell axes moments.count h
    (moments_count x question asked cell.moments moments is k))
    at
