-- Reports as they are written, in version 2: the lines of each entry, and the text of lines.
use Rattle.std.specs.Prelude.{ℕ, Bool, true, false, Option, None, Some, List, [], ◌∷◌, ◌++◌}
use Rattle.std.specs.Prelude.{map, ℤ}
use Rattle.std.specs.List.{flat_map}
use Rattle.exact_fraction.specs.Number.{Rational}
use Rattle.object_index.specs.Objects.{Objects}
use Rattle.rule_meaning.specs.State.{value}
use Rattle.rule_types.specs.declared.key.Key.{Key}
use Rattle.rule_types.specs.declared.rules.Rules.{Rules}
use Rattle.rule_types.specs.declared.state.State.{State}
use Rattle.verdict_meaning.specs.declared.cell.Cell.{Cell}
use Rattle.verdict_meaning.specs.declared.cert.Cert.{Cert}
use Rattle.verdict_meaning.specs.declared.cert.Cert.TheFolds.{fold-Cert}
use Rattle.verdict_meaning.specs.declared.cert.Cert.TheOpen.{Cert-F}
use Rattle.verdict_meaning.specs.declared.cert.Reason.{Reason}
use Rattle.verdict_meaning.specs.declared.cert.Reason.TheVariants.{Whole, Facts}
use Rattle.verdict_meaning.specs.declared.question.Question.{Question}
use Rattle.verdict_meaning.specs.declared.verdict.Stuck.{Stuck}
use Rattle.verdict_meaning.specs.declared.verdict.Stuck.TheVariants as stuck
use Rattle.verdict_meaning.specs.declared.verdict.Verdict.{Verdict}
use Rattle.verdict_meaning.specs.declared.verdict.Verdict.TheVariants as verdict
use Rattle.report_lines.specs.Reports.{grid_of, holds_text, refuted_text, cell_text}
use Rattle.report_lines.specs.Reports.{second_version, end_text}
use Rattle.report_lines.specs.TreeLines.{leaf_text}
use Rattle.report_lines.specs.declared.grid.Grid.{Grid}
use Rattle.report_text.specs.WrittenLines.{written_question, written_key_value}
use Rattle.report_text.specs.WrittenLines.{written_state_moment, written_key_piece, written_span}
use Rattle.report_text.specs.WrittenLines.{written_split, written_before, written_fact}
use Rattle.report_text.specs.WrittenLines.{written_count}

-- lines, each by its bytes
abbrev pub Texts : Type 0
Texts = List (List ℕ)

-- ---- states: a value for each key that the state has, and the moment where the grid has moments
abbrev pub value_lines_of : Objects → Key → Option Rational → Texts
value_lines_of objects key None = []
value_lines_of objects key (Some q) = written_key_value objects key q ∷ []

abbrev pub value_lines : Rules → Objects → State → List Key → Texts
value_lines x objects s = flat_map (λ key. value_lines_of objects key (value x s key))

abbrev pub moment_lines : Bool → ℤ → Texts
moment_lines false moment = []
moment_lines true moment = written_state_moment moment ∷ []

unfoldable pub state_lines : Rules → Objects → Grid → State → Texts
state_lines x objects grid s =
    value_lines x objects s grid.keys ++ moment_lines grid.has_moments s.moment

-- ---- cells: a piece for each key, and the moments where there are some
abbrev pub span_lines : Option (ℤ × ℤ) → Texts
span_lines None = []
span_lines (Some span) = written_span span ∷ []

unfoldable pub cell_lines : Objects → Cell → Texts
cell_lines objects cell = map (written_key_piece objects) cell.keys ++ span_lines cell.moments

-- ---- trees: each node before its trees, and a leaf before its facts
abbrev pub reason_lines : Reason → Texts
reason_lines Whole = []
reason_lines (Facts facts) = map written_fact facts

unfoldable pub node_lines : Objects → Cert-F Texts → Texts
node_lines objects (Cert-F.Leaf reason) = leaf_text ∷ reason_lines reason
node_lines objects (Cert-F.Split key q below at above) =
    written_split objects key q ∷ (below ++ at ++ above)
node_lines objects (Cert-F.Before moment before later) =
    written_before moment ∷ (before ++ later)

unfoldable pub tree_lines : Objects → Cert → Texts
tree_lines objects = fold-Cert Texts (node_lines objects)

-- ---- verdicts: a line that says which, and its body
abbrev pub stuck_lines : Objects → Stuck → Texts
stuck_lines objects (stuck.Cell cell) = cell_text ∷ cell_lines objects cell
stuck_lines objects (stuck.TooManyCells count) = written_count count ∷ []

abbrev pub verdict_lines : Rules → Objects → Grid → Verdict → Texts
verdict_lines x objects grid (verdict.Holds tree) = holds_text ∷ tree_lines objects tree
verdict_lines x objects grid (verdict.Refuted s) = refuted_text ∷ state_lines x objects grid s
verdict_lines x objects grid (verdict.Undecided why) = stuck_lines objects why

-- ---- entries: a question and its verdict
unfoldable pub entry_lines : Rules → Objects → Grid → Question → Verdict → Texts
entry_lines x objects grid question answer =
    written_question objects question ∷ verdict_lines x objects grid answer

-- ---- reports: the version, the entries in their order, and `end`
abbrev pub Asked : Type 0
Asked = Question × Verdict

abbrev pub asked_lines : Rules → Objects → Asked → Texts
asked_lines x objects asked = entry_lines x objects (grid_of x asked.0) asked.0 asked.1

unfoldable pub report_lines : Rules → Objects → List Asked → Texts
report_lines x objects entries =
    second_version ∷ (flat_map (asked_lines x objects) entries ++ (end_text ∷ []))

-- ---- texts: each line ends with a line feed
abbrev pub line_end : List ℕ
line_end = 10 ∷ []

abbrev pub ended : List ℕ → List ℕ
ended line = line ++ line_end

unfoldable pub text_of : Texts → List ℕ
text_of lines = flat_map ended lines

abbrev pub entry_text : Rules → Objects → Grid → Question → Verdict → List ℕ
entry_text x objects grid question answer =
    text_of (entry_lines x objects grid question answer)

abbrev pub report_text : Rules → Objects → List Asked → List ℕ
report_text x objects entries = text_of (report_lines x objects entries)
