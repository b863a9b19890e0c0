-- Reports: their entries, each a question and its verdict, and the first line at fault.
use Rattle.std.specs.Prelude.{ℕ, zero, suc, Bool, true, false, ◌==◌, if◌then◌else◌, List, [], ◌∷◌}
use Rattle.std.specs.Prelude.{codes, map, Option, None, Some, Result, Ok, Err, length}
use Rattle.std.specs.Str.{bytes_eq}
use Rattle.inp_text.specs.Sections.{Line}
use Rattle.num_text.specs.Counts.{count_of}
use Rattle.num_text.specs.Fields.{◌>>=◌}
use Rattle.object_index.specs.Objects.{Objects}
use Rattle.rule_types.specs.Reading.{links_acted}
use Rattle.rule_types.specs.declared.rules.Rules.{Rules}
use Rattle.rule_types.specs.declared.state.State.{State}
use Rattle.range_lines.specs.Entries.{in_link_order}
use Rattle.verdict_meaning.specs.declared.cell.Cell.{Cell}
use Rattle.verdict_meaning.specs.declared.question.Question.{Question}
use Rattle.verdict_meaning.specs.declared.verdict.Stuck.TheVariants as stuck
use Rattle.verdict_meaning.specs.declared.verdict.Verdict.{Verdict}
use Rattle.verdict_meaning.specs.declared.verdict.Verdict.TheVariants as verdict
use Rattle.verdict_meaning.specs.Questions.{grid_keys, has_moments, is_asked, all_numbers}
use Rattle.report_lines.specs.QuestionLines.{Known, question_by}
use Rattle.report_lines.specs.StateLines.{state_from, cell_from}
use Rattle.report_lines.specs.declared.grid.Grid.{Grid}
use Rattle.report_lines.specs.TreeLines.{PlacedTree, tree_from, most_levels}
use Rattle.report_lines.specs.Words.{Word, words_of, line_at, Read, Reading, read_to, made_of}
use Rattle.report_lines.specs.declared.verdict_line.VerdictLine.{VerdictLine}
use Rattle.report_lines.specs.declared.verdict_line.VerdictLine.TheVariants as line

-- ---- verdicts
abbrev pub holds_text : List ℕ
holds_text = codes "holds"

abbrev pub refuted_text : List ℕ
refuted_text = codes "refuted"

abbrev pub cell_text : List ℕ
cell_text = codes "undecided cell"

abbrev pub undecided_text : Word
undecided_text = codes "undecided"

abbrev pub count_text : Word
count_text = codes "count"

-- `undecided count N`
abbrev pub count_line : Option ℕ → Option VerdictLine
count_line None = None
count_line (Some count) = Some (line.Count count)

abbrev pub count_by : List Word → Option VerdictLine
count_by (head ∷ second ∷ count ∷ []) =
    if bytes_eq head undecided_text
    then (if bytes_eq second count_text then count_line (count_of count) else None) else None
count_by words = None

-- what a line says of a question
unfoldable pub verdict_line : List ℕ → Option VerdictLine
verdict_line text =
    if bytes_eq text holds_text then Some line.Holds
    else (if bytes_eq text refuted_text then Some line.Refuted
    else (if bytes_eq text cell_text then Some line.Cell else count_by (words_of text)))

-- the verdict of the line at a place
unfoldable pub verdict_at : List Line → ℕ → Option VerdictLine
verdict_at lines at = line_at lines at >>= verdict_line

-- a verdict, with the places of the lines of its tree's nodes
pub record PlacedVerdict : Type 0 where
  pub verdict : Verdict
  pub places : List ℕ

abbrev pub of_tree : PlacedTree → PlacedVerdict
of_tree placed = record { verdict = verdict.Holds placed.tree; places = placed.places }

abbrev pub of_state : State → PlacedVerdict
of_state s = record { verdict = verdict.Refuted s; places = [] }

abbrev pub of_cell : Cell → PlacedVerdict
of_cell cell = record { verdict = verdict.Undecided (stuck.Cell cell); places = [] }

abbrev pub of_count : ℕ → PlacedVerdict
of_count count =
    record { verdict = verdict.Undecided (stuck.TooManyCells count); places = [] }

-- the verdict whose line is at a place: a tree, a state or a cell follows, or nothing
abbrev pub body_from : List Line → Rules → Objects → Grid → Bool → ℕ → Option VerdictLine
    → Reading PlacedVerdict
body_from lines x objects grid facts at None = Err at
body_from lines x objects grid facts at (Some line.Holds) =
    made_of of_tree (tree_from lines objects grid facts most_levels (suc at) [])
body_from lines x objects grid facts at (Some line.Refuted) =
    made_of of_state (state_from lines x objects grid (suc at))
body_from lines x objects grid facts at (Some line.Cell) =
    made_of of_cell (cell_from lines objects grid (suc at))
body_from lines x objects grid facts at (Some (line.Count count)) =
    Ok (read_to (of_count count) (suc at))

unfoldable pub verdict_from : List Line → Rules → Objects → Grid → Bool → ℕ → Reading PlacedVerdict
verdict_from lines x objects grid facts at =
    body_from lines x objects grid facts at (verdict_at lines at)

-- ---- entries
-- what questions speak of
abbrev pub known_of : Rules → Objects → Known
known_of x objects = record {
  objects = objects;
  rules = length x.rules;
  links = in_link_order [] (links_acted x.rules);
}

-- the grid of a question
abbrev pub grid_of : Rules → Question → Grid
grid_of x question = record {
  keys = grid_keys x question;
  has_moments = has_moments x question;
  asked = map (is_asked x question) (all_numbers x);
}

-- the question of a line
abbrev pub question_line : Known → Option (List ℕ) → Option Question
question_line known None = None
question_line known (Some line) = question_by known (words_of line)

pub record Entry : Type 0 where
  pub question : Question
  pub verdict : Verdict
  pub places : List ℕ

abbrev pub entry_with : Question → PlacedVerdict → Entry
entry_with question read =
    record { question = question; verdict = read.verdict; places = read.places }

abbrev pub entry_on : List Line → Rules → Objects → Bool → ℕ → Option Question → Reading Entry
entry_on lines x objects facts at None = Err at
entry_on lines x objects facts at (Some question) =
    made_of (entry_with question)
    (verdict_from lines x objects (grid_of x question) facts (suc at))

-- the entry from a line on
unfoldable pub entry_from : List Line → Rules → Objects → Bool → ℕ → Reading Entry
entry_from lines x objects facts at =
    entry_on lines x objects facts at (question_line (known_of x objects) (line_at lines at))

-- ---- reports
abbrev pub first_version : List ℕ
first_version = codes "report 1"

abbrev pub second_version : List ℕ
second_version = codes "report 2"

abbrev pub end_text : List ℕ
end_text = codes "end"

-- whether a report has version 2, by its first line
unfoldable pub version_by : List ℕ → Option Bool
version_by text =
    if bytes_eq text first_version then Some false
    else (if bytes_eq text second_version then Some true else None)

-- whether a line ends the report
abbrev pub is_end_line : Option (List ℕ) → Bool
is_end_line None = false
is_end_line (Some text) = bytes_eq text end_text

-- the next entry, or nothing at the line `end`, which is the last
abbrev pub some_entry : Reading Entry → Result (Option (Read Entry)) ℕ
some_entry (Ok read) = Ok (Some read)
some_entry (Err at) = Err at

abbrev pub last_line : List Line → ℕ → Result (Option (Read Entry)) ℕ
last_line lines at = if length lines == suc at then Ok None else Err (suc at)

unfoldable pub next_from : List Line → Rules → Objects → Bool → ℕ → Result (Option (Read Entry)) ℕ
next_from lines x objects facts at =
    if is_end_line (line_at lines at) then last_line lines at
    else some_entry (entry_from lines x objects facts at)

-- all entries from a line on, among at most so many lines
abbrev pub before_entries : Entry → Result (List Entry) ℕ → Result (List Entry) ℕ
before_entries entry (Err at) = Err at
before_entries entry (Ok more) = Ok (entry ∷ more)

abbrev pub entries_after : Result (Option (Read Entry)) ℕ → (ℕ → Result (List Entry) ℕ)
    → Result (List Entry) ℕ
entries_after (Err at) later = Err at
entries_after (Ok None) later = Ok []
entries_after (Ok (Some read)) later = before_entries read.value (later read.next)

unfoldable pub entries_from : List Line → Rules → Objects → Bool → ℕ → ℕ → Result (List Entry) ℕ
entries_from lines x objects facts zero at = Err at
entries_from lines x objects facts (suc most) at =
    entries_after (next_from lines x objects facts at)
    (entries_from lines x objects facts most)

-- a whole report: its entries, or the place from 0 of its first line at fault
abbrev pub report_with : List Line → Rules → Objects → Option Bool → Result (List Entry) ℕ
report_with lines x objects None = Err 0
report_with lines x objects (Some facts) = entries_from lines x objects facts (length lines) 1

unfoldable pub report_of : List Line → Rules → Objects → Result (List Entry) ℕ
report_of lines x objects = report_with lines x objects (line_at lines 0 >>= version_by)
