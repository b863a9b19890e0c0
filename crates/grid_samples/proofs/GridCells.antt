-- The cells of a grid have its keys and pieces, and the first box covers them.
use Rattle.std.proofs.Common.{◌≡◌, ℕ, zero as nothing, suc, Bool, true, false, Option, Some, None, List, [], ◌∷◌, map, cond, refl, sym, subst, arith}
use Rattle.std.proofs.lemmas.Int.{ints}
use Rattle.std.proofs.lemmas.List.Elements.{All-from_recursion, recursion_from_All}
use Rattle.std.specs.List.{AllByRecursion, AllZip, cons_option, filter_map}
use Rattle.std.specs.Prelude.{All, ℤ, pos, ◌+ℤ◌, ◌-ℤ◌, ◌≤ℤ◌, int_lt, unsigned_abs}
use Rattle.exact_fraction.specs.Number.{Rational, den, one, whole, zero}
use Rattle.exact_fraction.specs.Order.{◌≤ℚ◌, less}
use Rattle.exact_fraction.proofs.PublicLaws.{tests-at_most}
use Rattle.interval_sets.specs.declared.interval.Interval.{Interval}
use Rattle.interval_sets.proofs.PublicLaws.{intervals-inside}
use Rattle.rule_types.specs.declared.key.Key.{Key}
use Rattle.rule_types.specs.declared.key.Key.TheVariants.{Object, Clock}
use Rattle.rule_types.specs.declared.rules.Rules.{Rules}
use Rattle.rule_types.specs.declared.state.State.{State}
use Rattle.rule_types.specs.WellFormed.{WellFormed}
use Rattle.rule_types.proofs.PublicLaws.{equal_keys-key}
use Rattle.moment_pieces.specs.Pieces.{begins_piece, later_firsts, piece_firsts}
use Rattle.verdict_meaning.specs.declared.cell.Cell.{Cell}
use Rattle.verdict_meaning.specs.declared.question.Question.{Question}
use Rattle.verdict_meaning.specs.declared.ranges.Ranges.{Ranges}
use Rattle.verdict_meaning.specs.Boxes.{first_box, IsInRanges, range_or}
use Rattle.verdict_meaning.specs.FitRanges.{AreEnds}
use Rattle.verdict_meaning.specs.Grids.{axes_of, cells_of, combinations, cuts_of, grid_cells, moment_pieces, pieces_of, sample_memory, sample_of, spans_to}
use Rattle.verdict_meaning.specs.Hulls.{closed}
use Rattle.verdict_meaning.specs.Premises.{start_of}
use Rattle.verdict_meaning.specs.Questions.{asked_numbers, grid_keys}
use Rattle.verdict_meaning.specs.Reaches.{piece_in, same_key}
use Rattle.verdict_meaning.specs.Verdicts.{samples}
use Rattle.grid_samples.specs.Cells.{HasClosedRanges, IsGridCell, IsNotBelowZero, IsNotEmpty, TracksLimit}
use Rattle.grid_samples.specs.Covers.{Covers, CoversEntry, CoversMoments, IsPartOf}
use Rattle.grid_samples.proofs.Cuts.{IsPiece, range_pieces}
use Rattle.grid_samples.proofs.Each.{each_append, each_by, each_flat}
use Rattle.grid_samples.proofs.SampleStates.{grid_cell, in_ranges}

-- ---- keys
-- an entry of a cell has the key of an entry of a box, and a piece of its interval
abbrev IsPieceOf : Key × Interval → Key × Interval → Type 0
IsPieceOf entry piece = (entry.0 ≡ piece.0) × IsPiece entry.1 piece.1

abbrev ArePieces : List (Key × Interval) → List (Key × Interval) → Type 0
ArePieces entries pieces = AllZip IsPieceOf entries pieces

abbrev HasEnds : Key × Interval → Type 0
HasEnds entry = AreEnds entry.1.low entry.1.high

with_piece : (entry : Key × Interval) (entries : List (Key × Interval)) (piece : Interval)
    → IsPiece entry.1 piece → (found : List (List (Key × Interval)))
    → AllByRecursion (ArePieces entries) found
    → AllByRecursion (ArePieces (entry ∷ entries)) (map (λ cell. (entry.0, piece) ∷ cell) found)
with_piece entry entries piece h [] k = tt
with_piece entry entries piece h (cell ∷ found) k =
    (((refl, h), k.0), with_piece entry entries piece h found k.1)

combined : (x : Rules) (question : Question) (entries : List (Key × Interval))
    → AllByRecursion HasEnds entries
    → AllByRecursion (ArePieces entries) (combinations (axes_of x question entries))
unfolding combinations axes_of
combined x question [] h = (tt, tt)
combined x question (entry ∷ entries) h =
    let found = combinations (axes_of x question entries) in
    let pieces = pieces_of (cuts_of x question entry.0 entry.1) in
    each_flat (ArePieces (entry ∷ entries))
    (λ piece. map (λ cell. (entry.0, piece) ∷ cell) found) pieces
    (each_by (IsPiece entry.1)
    (λ piece. AllByRecursion (ArePieces (entry ∷ entries))
    (map (λ cell. (entry.0, piece) ∷ cell) found))
    (λ piece is. with_piece entry entries piece is found (combined x question entries h.1)) pieces
    (range_pieces x question entry.0 entry.1 h.0))

-- ---- moments
abbrev IsFrom : ℤ → ℤ → ℤ → Type 0
IsFrom first last second = (first ≤ℤ second) × (second ≤ℤ last)

later_in : (begins : ℤ → Bool) (first last : ℤ) (n : ℕ) → (first +ℤ pos n) ≤ℤ last
    → AllByRecursion (IsFrom first last) (later_firsts begins first n)
unfolding later_firsts
later_in begins first last nothing h = tt
later_in begins first last (suc n) h =
    each_append (IsFrom first last) (later_firsts begins first n) _
    (later_in begins first last n (omega (arith, ints, h)))
    (by_test (begins (first +ℤ pos (suc n))))
  where
    by_test : (b : Bool)
        → AllByRecursion (IsFrom first last) (cond b ((first +ℤ pos (suc n)) ∷ []) [])
    by_test true = ((omega (arith, ints), h), tt)
    by_test false = tt

firsts_in : (x : Rules) (used : List ℕ) (step : Rational) (start first last : ℤ)
    → AllByRecursion (IsFrom first last) (piece_firsts x used step start first last)
unfolding piece_firsts
firsts_in x used step start first last = by_test (int_lt last first) refl
  where
    by_test : (b : Bool) → int_lt last first ≡ b
        → AllByRecursion (IsFrom first last)
        (cond b []
        (first ∷ later_firsts (begins_piece x used step start) first (unsigned_abs (last -ℤ first))))
    by_test true is = tt
    by_test false is = (
      (omega (arith, ints), omega (arith, ints, is)),
      later_in (begins_piece x used step start) first last (unsigned_abs (last -ℤ first))
          (omega (arith, ints, is)),
    )

spans_in : (first last end : ℤ) (firsts : List ℤ) → AllByRecursion (IsFrom first last) firsts
    → AllByRecursion (λ span. CoversMoments (Some (first, last)) (Some span))
    (spans_to end firsts)
unfolding spans_to
spans_in first last end [] h = tt
spans_in first last end (begin ∷ []) h = (record { from_first = h.0.0; to_last = h.0.1 }, tt)
spans_in first last end (begin ∷ next ∷ more) h = (
  record { from_first = h.0.0; to_last = h.0.1 },
  spans_in first last end (next ∷ more) h.1,
)

some_spans : (box : Option (ℤ × ℤ)) (spans : List (ℤ × ℤ))
    → AllByRecursion (λ span. CoversMoments box (Some span)) spans
    → AllByRecursion (CoversMoments box) (map (λ span. Some span) spans)
some_spans box [] h = tt
some_spans box (span ∷ spans) h = (h.0, some_spans box spans h.1)

moments_in : (x : Rules) (question : Question) (box : Option (ℤ × ℤ))
    → AllByRecursion (CoversMoments box) (moment_pieces x question box)
moments_in x question None = (tt, tt)
moments_in x question (Some span) =
    some_spans (Some span) _
    (spans_in span.0 span.1 span.1 _
    (firsts_in x (asked_numbers x question) x.routing_step (start_of x) span.0 span.1))

-- ---- cells
IsCellOf : Cell → Cell → Type 0
IsCellOf box cell = ArePieces box.keys cell.keys × CoversMoments box.moments cell.moments

with_moments : (box : Cell) (keys : List (Key × Interval)) (spans : List (Option (ℤ × ℤ)))
    → ArePieces box.keys keys → AllByRecursion (CoversMoments box.moments) spans
    → AllByRecursion (IsCellOf box)
    (map (λ (span : Option (ℤ × ℤ)). record { keys = keys; moments = span }) spans)
unfolding IsCellOf
with_moments box keys [] h k = tt
with_moments box keys (span ∷ spans) h k = ((h, k.0), with_moments box keys spans h k.1)

cells_are : (x : Rules) (question : Question) (box : Cell) → AllByRecursion HasEnds box.keys
    → AllByRecursion (IsCellOf box) (cells_of x question box)
unfolding cells_of
cells_are x question box h =
    let spans = moment_pieces x question box.moments in
    let cells = λ (keys : List (Key × Interval)).
    map (λ (span : Option (ℤ × ℤ)). record { keys = keys; moments = span }) spans in
    each_flat (IsCellOf box) cells (combinations (axes_of x question box.keys))
    (each_by (ArePieces box.keys) (λ keys. AllByRecursion (IsCellOf box) (cells keys))
    (λ keys is. with_moments box keys spans is (moments_in x question box.moments))
    (combinations (axes_of x question box.keys)) (combined x question box.keys h))

-- ---- what the cells have
abbrev IsLowEntry : Key × Interval → Type 0
IsLowEntry entry = IsNotBelowZero entry.0 entry.1

low_part : (key : Key) (range piece : Interval) → IsNotBelowZero key range
    → IsPartOf piece range → IsNotBelowZero key piece
low_part (Object object attribute) range piece h part = λ link q inside. h link q (part q inside)
low_part (Clock attribute) range piece h part = tt

each_covered : (entries pieces : List (Key × Interval)) → ArePieces entries pieces
    → AllZip CoversEntry entries pieces
each_covered [] [] h = tt
each_covered [] (piece ∷ pieces) h = absurd h
each_covered (entry ∷ entries) [] h = absurd h
each_covered (entry ∷ entries) (piece ∷ pieces) h =
    ((h.0.0, h.0.1.1), each_covered entries pieces h.1)

each_some : (entries pieces : List (Key × Interval)) → ArePieces entries pieces
    → AllByRecursion IsNotEmpty pieces
each_some [] [] h = tt
each_some [] (piece ∷ pieces) h = absurd h
each_some (entry ∷ entries) [] h = absurd h
each_some (entry ∷ entries) (piece ∷ pieces) h = (h.0.1.0, each_some entries pieces h.1)

each_low : (entries pieces : List (Key × Interval)) → AllByRecursion IsLowEntry entries
    → ArePieces entries pieces → AllByRecursion IsLowEntry pieces
each_low [] [] low h = tt
each_low [] (piece ∷ pieces) low h = absurd h
each_low (entry ∷ entries) [] low h = absurd h
each_low (entry ∷ entries) (piece ∷ pieces) low h = (
  subst (λ key. IsNotBelowZero key piece.1) h.0.0
      (low_part entry.0 entry.1 piece.1 low.0 h.0.1.1),
  each_low entries pieces low.1 h.1,
)

-- ---- ranges
zero_to_one : zero ≤ℚ one
unfolding less whole den
zero_to_one = (tests-at_most zero one).0 refl

one_low : (key : Key) → IsNotBelowZero key (closed zero one)
one_low (Object object attribute) =
    λ link q inside. ((intervals-inside (closed zero one) q).0 inside).above
one_low (Clock attribute) = tt

abbrev Holds : (Key → Interval → Type 0) → Key × Interval → Type 0
Holds P entry = P entry.0 entry.1

first_or_later : (P : Key → Interval → Type 0) (key : Key) (entry : Key × Interval)
    (later : Option Interval) (b : Bool) → same_key key entry.0 ≡ b → Holds P entry
    → P key (range_or later) → P key (range_or (cond b (Some entry.1) later))
first_or_later P key entry later true is h k =
    subst (λ other. P other entry.1) (sym ((equal_keys-key key entry.0).0 is)) h
first_or_later P key entry later false is h k = k

range_by : (P : Key → Interval → Type 0) → ((key : Key) → P key (closed zero one)) → (key : Key)
    (keys : List (Key × Interval)) → AllByRecursion (Holds P) keys
    → P key (range_or (piece_in key keys))
unfolding piece_in
range_by P h key [] each = h key
range_by P h key (entry ∷ keys) each =
    first_or_later P key entry (piece_in key keys) (same_key key entry.0) refl each.0
    (range_by P h key keys each.1)

each_ranged : (P : Key → Interval → Type 0) (f : Key → Interval) → ((key : Key) → P key (f key))
    → (keys : List Key) → AllByRecursion (Holds P) (map (λ key. (key, f key)) keys)
each_ranged P f h [] = tt
each_ranged P f h (key ∷ keys) = (h key, each_ranged P f h keys)

first_entries : (P : Key → Interval → Type 0) → ((key : Key) → P key (closed zero one))
    → (x : Rules) (question : Question) (ranges : Ranges)
    → All (Holds P) ranges.keys
    → AllByRecursion (Holds P) (first_box x question ranges).keys
unfolding first_box
first_entries P h x question ranges each =
    each_ranged P (λ key. range_or (piece_in key ranges.keys))
    (λ key. range_by P h key ranges.keys
    (recursion_from_All (Holds P) ranges.keys each))
    (grid_keys x question)

grid_cell_is : (x : Rules) (question : Question) (ranges : Ranges) (cell : Cell)
    → HasClosedRanges ranges → IsCellOf (first_box x question ranges) cell
    → IsGridCell x question (first_box x question ranges) cell
unfolding IsCellOf
grid_cell_is x question ranges cell closed_ranges h =
    let box : Cell = first_box x question ranges in
    let covers : Covers box cell =
    record { keys = each_covered box.keys cell.keys h.0; moments = h.1 } in
    let low =
    first_entries IsNotBelowZero one_low x question ranges closed_ranges.not_below_zero in
    record {
      keys = grid_cell x question ranges cell covers;
      pieces = record {
        not_empty = All-from_recursion IsNotEmpty cell.keys (each_some box.keys cell.keys h.0);
        not_below_zero = All-from_recursion IsLowEntry cell.keys (each_low box.keys cell.keys low h.0);
      };
      covered = covers;
    }

each_cell : (x : Rules) (question : Question) (ranges : Ranges) → HasClosedRanges ranges
    → AllByRecursion (IsGridCell x question (first_box x question ranges))
    (grid_cells x question ranges)
unfolding grid_cells
each_cell x question ranges h =
    let box : Cell = first_box x question ranges in
    let ends =
    first_entries (λ key range. AreEnds range.low range.high) (λ key. zero_to_one) x question
    ranges h.ends in
    each_by (IsCellOf box) (IsGridCell x question box)
    (λ cell is. grid_cell_is x question ranges cell h is) (cells_of x question box)
    (cells_are x question box ends)

pub cells_in_grid : (x : Rules) (question : Question) (ranges : Ranges) → HasClosedRanges ranges
    → All (IsGridCell x question (first_box x question ranges)) (grid_cells x question ranges)
cells_in_grid x question ranges h =
    All-from_recursion (IsGridCell x question (first_box x question ranges))
    (grid_cells x question ranges) (each_cell x question ranges h)

-- ---- samples
one_sample : (P : State → Type 0) (o : Option State) (rest : List State)
    → ((s : State) → o ≡ Some s → P s) → AllByRecursion P rest
    → AllByRecursion P (cons_option o rest)
one_sample P None rest h later = later
one_sample P (Some s) rest h later = (h s refl, later)

each_sample : (x : Rules) (P : State → Type 0) (Q : Cell → Type 0)
    → ((cell : Cell) (s : State) → Q cell → sample_of x cell ≡ Some s → P s)
    → (cells : List Cell) → AllByRecursion Q cells
    → AllByRecursion P (filter_map (sample_of x) cells)
each_sample x P Q h [] each = tt
each_sample x P Q h (cell ∷ cells) each =
    one_sample P (sample_of x cell) (filter_map (sample_of x) cells)
    (λ s is. h cell s each.0 is) (each_sample x P Q h cells each.1)

pub samples_in_ranges : (x : Rules) (question : Question) (ranges : Ranges) → WellFormed x
    → TracksLimit x question → HasClosedRanges ranges
    → All (IsInRanges x question ranges sample_memory) (samples x question ranges)
samples_in_ranges x question ranges formed limit h =
    All-from_recursion (IsInRanges x question ranges sample_memory) (samples x question ranges)
    (each_sample x (IsInRanges x question ranges sample_memory)
    (IsGridCell x question (first_box x question ranges))
    (λ cell s is e. in_ranges x question ranges cell s formed limit is.pieces is.covered e)
    (grid_cells x question ranges) (each_cell x question ranges h))
