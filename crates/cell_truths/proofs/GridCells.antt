-- What is known of the cells of a grid.
use Rattle.std.proofs.Common.{◌≡◌, ℕ, Bool, true, false, Option, Some, None, List, [], ◌∷◌}
use Rattle.std.proofs.Common.{cond, refl, sym, subst, ℤ, arith}
use Rattle.std.proofs.lemmas.Bool.{true≢false}
use Rattle.std.proofs.lemmas.Int.{ints}
use Rattle.std.proofs.lemmas.List.Elements.{recursion_from_All}
use Rattle.std.proofs.lemmas.Option.{none-some}
use Rattle.std.specs.List.{AllByRecursion, AllZip}
use Rattle.std.specs.Prelude.{IsSome, slice_get}
use Rattle.interval_sets.specs.declared.interval.Interval.{Interval}
use Rattle.rule_types.specs.declared.key.Key.{Key}
use Rattle.rule_types.specs.declared.rules.Rules.{Rules}
use Rattle.rule_types.specs.declared.state.State.{State}
use Rattle.rule_types.specs.WellFormed.{WellFormed}
use Rattle.verdict_meaning.specs.declared.cell.Cell.{Cell}
use Rattle.verdict_meaning.specs.declared.question.Question.{Question}
use Rattle.verdict_meaning.specs.declared.ranges.Ranges.{Ranges}
use Rattle.verdict_meaning.specs.Boxes.{first_box, IsStateIn}
use Rattle.verdict_meaning.specs.Grids.{grid_cells, sample_of}
use Rattle.verdict_meaning.specs.Questions.{grid_keys, has_moments}
use Rattle.verdict_meaning.specs.Reaches.{piece_in}
use Rattle.grid_samples.specs.Cells.{HasClosedRanges, IsGridCell, IsNotBelowZero, TracksLimit}
use Rattle.grid_samples.specs.Covers.{Covers, CoversEntry, CoversMoments}
use Rattle.grid_samples.proofs.PublicLaws.{grids-cells, samples-in_boxes}
use Rattle.cell_truths.specs.DecidedTruths.{GivesMoments}
use Rattle.cell_truths.proofs.CellPieces.{begins_for, cells_for, IsCellFor, IsRunFor, IsUncut}
use Rattle.cell_truths.proofs.CellPieces.{uncut_pieces}
use Rattle.cell_truths.proofs.GridKeys.{IsKeyOf, IsPieceOfKey, piece_of_key}
use Rattle.cell_truths.proofs.KeyTruths.{IsKeyPiece}
use Rattle.cell_truths.proofs.Lists.{among_at, each_among}
use Rattle.cell_truths.proofs.MomentRuns.{IsRun}

-- a cell of the grid has a piece of each of the grid's keys, and lies in the first box
pub record IsKnownCell (x : Rules) (question : Question) (box cell : Cell) : Type 0 where
  pub own : IsCellFor x question box cell
  pub grid : IsGridCell x question box cell

pub known_cell : (x : Rules) (question : Question) (ranges : Ranges) (cell : Cell) (k : ℕ)
    → HasClosedRanges ranges → slice_get (grid_cells x question ranges) k ≡ Some cell
    → IsKnownCell x question (first_box x question ranges) cell
unfolding grid_cells
known_cell x question ranges cell k h is =
    let box : Cell = first_box x question ranges in
    let at = among_at (grid_cells x question ranges) k cell is in
    record {
      own = each_among (IsCellFor x question box) (grid_cells x question ranges) cell
          (cells_for x question box) at;
      grid = each_among (IsGridCell x question box) (grid_cells x question ranges) cell
          (recursion_from_All (IsGridCell x question box) (grid_cells x question ranges)
          (grids-cells x question ranges h)) at;
    }

-- ---- keys
both_facts : (x : Rules) (question : Question) (entries : List (Key × Interval))
    → AllByRecursion (λ entry. IsUncut x question entry.0 entry.1) entries
    → AllByRecursion (λ entry. IsNotBelowZero entry.0 entry.1) entries
    → AllByRecursion (λ entry. IsKeyPiece x question entry.0 entry.1) entries
both_facts x question [] h k = tt
both_facts x question (entry ∷ entries) h k =
    (record { uncut = h.0; low = k.0 }, both_facts x question entries h.1 k.1)

pub cell_piece : (x : Rules) (question : Question) (box cell : Cell) (key : Key)
    → IsKnownCell x question box cell → IsKeyOf (grid_keys x question) key
    → IsPieceOfKey (IsKeyPiece x question) key (piece_in key cell.keys)
cell_piece x question box cell key h at =
    piece_of_key (IsKeyPiece x question) key cell.keys
    (both_facts x question cell.keys
    (uncut_pieces x question box.keys cell.keys h.own.keys h.grid.covered.keys)
    (recursion_from_All (λ entry. IsNotBelowZero entry.0 entry.1) cell.keys
    h.grid.pieces.not_below_zero))
    (subst (λ keys. IsKeyOf keys key) (sym h.grid.keys.keys) at)

-- ---- moments
-- the moments of a cell are a run
pub record HasRun (x : Rules) (question : Question) (moments : Option (ℤ × ℤ)) : Type 0 where
  pub span : ℤ × ℤ
  pub is : moments ≡ Some span
  pub run : IsRun (begins_for x question) span

run_by : (x : Rules) (question : Question) (box cell : Option (ℤ × ℤ)) → IsSome box
    → IsRunFor (begins_for x question) box cell → HasRun x question cell
run_by x question None cell some h = absurd (true≢false (sym some))
run_by x question (Some span) None some h = absurd h
run_by x question (Some span) (Some piece) some h =
    record { span = piece; is = refl; run = h }

first_moments : (b : Bool) (moments : Option (ℤ × ℤ)) → b ≡ true → IsSome moments
    → IsSome (cond b moments None)
first_moments true moments e some = some
first_moments false moments e some = absurd (true≢false (sym e))

pub cell_run : (x : Rules) (question : Question) (ranges : Ranges) (cell : Cell)
    → GivesMoments x question ranges
    → IsKnownCell x question (first_box x question ranges) cell
    → has_moments x question ≡ true → HasRun x question cell.moments
unfolding first_box
cell_run x question ranges cell gives h has =
    run_by x question (first_box x question ranges).moments cell.moments
    (first_moments (has_moments x question) ranges.moments has (gives has)) h.own.moments

-- ---- a cell covers itself
itself_keys : (entries : List (Key × Interval)) → AllZip CoversEntry entries entries
itself_keys [] = tt
itself_keys (entry ∷ entries) = ((refl, λ q inside. inside), itself_keys entries)

itself_moments : (begins : ℤ → Bool) (box cell : Option (ℤ × ℤ)) → IsRunFor begins box cell
    → CoversMoments cell cell
itself_moments begins box None h = tt
itself_moments begins None (Some span) h = absurd (none-some span (sym h))
itself_moments begins (Some range) (Some span) h =
    record { from_first = omega (arith, ints); to_last = h.some }

pub state_in_cell : (x : Rules) (question : Question) (ranges : Ranges) (cell : Cell) (k : ℕ)
    (s : State) → WellFormed x → HasClosedRanges ranges → TracksLimit x question
    → slice_get (grid_cells x question ranges) k ≡ Some cell → sample_of x cell ≡ Some s
    → IsStateIn x cell s
state_in_cell x question ranges cell k s formed closed tracks is sampled =
    let box : Cell = first_box x question ranges in
    let known = known_cell x question ranges cell k closed is in
    let covers : Covers cell cell =
    record {
      keys = itself_keys cell.keys;
      moments = itself_moments (begins_for x question) box.moments cell.moments known.own.moments;
    } in
    samples-in_boxes x question cell cell s formed tracks known.grid.keys known.grid.pieces covers
    sampled
