-- A cell that stays open is one of its question's grid, and a count of cells is short.
use Rattle.std.proofs.Common.{◌≡◌, ℕ, ◌-◌, ◌^◌, ◌<◌, Bool, true, false, not, cond, ◌&&◌, nat_lt}
use Rattle.std.proofs.Common.{Option, Some, None, List, [], ◌∷◌, refl, sym, ap, subst, arith}
use Rattle.std.specs.Prelude.{All, IsTrue}
use Rattle.std.specs.List.{AllByRecursion, find, list_all}
use Rattle.std.proofs.lemmas.Bool.{and_parts}
use Rattle.std.proofs.lemmas.Bool.Decides.{nat_tests}
use Rattle.std.proofs.lemmas.List.Elements.{All-head, All-tail, recursion_from_All}
use Rattle.std.proofs.lemmas.Option.{none-some, same_Some}
use Rattle.interval_sets.specs.declared.interval.Interval.{Interval}
use Rattle.interval_sets.specs.Intervals.{has_member}
use Rattle.rule_types.specs.Tables.{TableSet}
use Rattle.rule_types.specs.declared.key.Key.{Key}
use Rattle.rule_types.specs.declared.rules.Rules.{Rules}
use Rattle.verdict_meaning.specs.Boxes.{first_box}
use Rattle.verdict_meaning.specs.Grids.{grid_cells}
use Rattle.verdict_meaning.specs.Shown.{shown}
use Rattle.verdict_meaning.specs.Verdicts.{first_open, written_count}
use Rattle.verdict_meaning.specs.declared.cell.Cell.{Cell}
use Rattle.verdict_meaning.specs.declared.question.Question.{Question}
use Rattle.verdict_meaning.specs.declared.ranges.Ranges.{Ranges}
use Rattle.grid_samples.specs.Cells.{HasClosedRanges, IsNotEmpty}
use Rattle.grid_samples.specs.Cells.{IsGridCell as IsCellOf}
use Rattle.grid_samples.proofs.PublicLaws.{grids-cells}
use Rattle.report_lines.specs.Reports.{grid_of}
use Rattle.report_text.specs.Readable.{IsGridCell, piece_fits}
use Rattle.report_round_trips.specs.ReadableVerdicts.{CellFits, ends_fit}

-- ---- what is found is one of the items
holds_by : {A : Type 0} (P : A → Type 0) (first item : A) (b : Bool) (later : Option A) → P first
    → cond b (Some first) later ≡ Some item → (later ≡ Some item → P item) → P item
holds_by P first item true later h is ih = subst P (same_Some first item is) h
holds_by P first item false later h is ih = ih is

pub found_holds : {A : Type 0} (P : A → Type 0) (test : A → Bool) (xs : List A) (item : A)
    → AllByRecursion P xs → find test xs ≡ Some item → P item
found_holds P test [] item each is = absurd (none-some item is)
found_holds P test (x ∷ xs) item each is =
    holds_by P x item (test x) (find test xs) each.0 is (found_holds P test xs item each.1)

-- ---- pieces
both : (a b : Bool) → a ≡ true → b ≡ true → (a && b) ≡ true
both true b e f = f
both false b e f = e

pieces_fit : (entries : List (Key × Interval)) → All IsNotEmpty entries
    → list_all (λ entry. ends_fit entry.1) entries ≡ true
    → list_all (λ entry. piece_fits entry.1) entries ≡ true
pieces_fit [] full ends = refl
pieces_fit (entry ∷ more) full ends =
    let parts = and_parts (ends_fit entry.1) (list_all (λ entry. ends_fit entry.1) more) ends in
    both (piece_fits entry.1) (list_all (λ entry. piece_fits entry.1) more)
    (both (ends_fit entry.1) (has_member entry.1.low entry.1.high) parts.0
    (All-head IsNotEmpty entry more full))
    (pieces_fit more (All-tail IsNotEmpty entry more full) parts.1)

pub cell_read : (x : Rules) (tables : TableSet) (ranges : Ranges) (question : Question)
    (cell : Cell) → HasClosedRanges ranges → first_open x tables ranges question ≡ Some cell
    → CellFits x question cell → IsGridCell (grid_of x question) cell
unfolding first_open
cell_read x tables ranges question cell closed first fits =
    let box = first_box x question ranges in
    let own = found_holds (IsCellOf x question box) (λ one. not (shown x tables question one))
    (grid_cells x question ranges) cell
    (recursion_from_All (IsCellOf x question box) (grid_cells x question ranges)
    (grids-cells x question ranges closed)) first in
    record {
      keys = own.keys.keys;
      pieces = pieces_fit cell.keys own.pieces.not_empty fits.ends;
      moments = fits.moments;
    }

-- ---- counts
short_by : (b : Bool) (count : ℕ) → nat_lt (2 ^ 64 - 1) count ≡ b
    → cond b (2 ^ 64 - 1) count < 2 ^ 64
short_by true count e = omega arith
short_by false count e = grind (arith, nat_tests)

pub count_short : (count : ℕ) → written_count count < 2 ^ 64
count_short count = short_by (nat_lt (2 ^ 64 - 1) count) count refl
