-- What the parts of the reader stand for in the words of the definitions.
use Rattle.std.specs.Prelude.{ℕ, ◌==◌, List, [], map, Option, None, Some, Result, Ok, Err}
use Rattle.std.specs.Borrow.{Bor}
use Rattle.std.specs.List.{slice_split}
use Rattle.verdict_meaning.specs.declared.cert.Cert.{Cert}
use Rattle.exact_fraction.specs.Number.{Rational}
use Rattle.inp_text.specs.Sections.{Line}
use Rattle.object_index.specs.Objects.{Objects}
use Rattle.rule_types.specs.declared.key.Key.{Key}
use Rattle.interval_sets.specs.declared.interval.Interval.{Interval}
use Rattle.report_lines.specs.StateLines.{values_from, pieces_from}
use Rattle.report_lines.specs.declared.cell.PieceList.{PieceList}
use Rattle.report_lines.specs.declared.state.Progress.{Progress}
use Rattle.report_lines.specs.QuestionLines.{Known}
use Rattle.report_lines.specs.TreeLines.{PlacedTree, placed}
use Rattle.report_lines.specs.Reports.{PlacedVerdict}
use Rattle.report_lines.specs.Words.{Word, Reading, read_to}
use Rattle.report_lines.specs.declared.known.Known.{Known as CodeKnown}
use Rattle.verdict_meaning.specs.declared.verdict.Verdict.{Verdict}

-- the words of a line
abbrev pub texts : List (Bor (List ℕ)) → List Word
texts words = map (λ word. word.now) words

-- what is left behind a part: nothing where the text has ended
abbrev pub parts_behind : ℕ → Option (List ℕ) → List (List ℕ)
parts_behind separator None = []
parts_behind separator (Some rest) = slice_split (λ byte. byte == separator) rest

-- a part with the place of the line behind it, or the place of the line at fault
abbrev pub reading_now : {A : Type 0} → Result (A × ℕ) ℕ → Reading A
reading_now (Ok read) = Ok (read_to read.0 read.1)
reading_now (Err at) = Err at

-- a tree with the places of lines
abbrev pub tree_now : Result (Cert × ℕ) ℕ → List ℕ → Reading PlacedTree
tree_now (Ok read) places = Ok (read_to (placed read.0 places) read.1)
tree_now (Err at) places = Err at

-- a verdict with the places of lines
abbrev pub verdict_now : Result (Verdict × ℕ) ℕ → List ℕ → Reading PlacedVerdict
verdict_now (Ok read) places =
    Ok (read_to (record { verdict = read.0; places = places }) read.1)
verdict_now (Err at) places = Err at

-- what questions speak of
abbrev pub known_now : CodeKnown → Known
known_now known = record {
  objects = known.objects.now;
  rules = known.rules;
  links = known.links.now;
}

-- what goes on from the values of some keys with those of later ones
abbrev pub values_go_on : List Line → Objects → List Key → Result Progress ℕ
    → Reading (List (Key × Rational))
values_go_on lines objects later (Ok so_far) =
    values_from lines objects later so_far.place so_far.setting so_far.values
values_go_on lines objects later (Err at) = Err at

-- what goes on from the pieces of some keys with those of later ones
abbrev pub pieces_go_on : List Line → Objects → List Key → Result PieceList ℕ
    → Reading (List (Key × Interval))
pieces_go_on lines objects later (Ok so_far) =
    pieces_from lines objects later so_far.place so_far.pieces
pieces_go_on lines objects later (Err at) = Err at
