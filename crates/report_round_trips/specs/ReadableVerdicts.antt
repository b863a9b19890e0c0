-- What is asked of the report of right verdicts, so that it is read back as what it was written of.
use Rattle.std.specs.Prelude.{Bool, true, ◌&&◌, IfSome, IsTrue, All, List}
use Rattle.std.specs.List.{AllZip, list_all}
use Rattle.interval_sets.specs.declared.interval.Interval.{Interval}
use Rattle.object_index.specs.Objects.{Objects}
use Rattle.report_lines.specs.Reports.{known_of}
use Rattle.report_text.specs.ReadBack.{AreLineNames}
use Rattle.report_text.specs.Readable.{IsFoundKey, IsQuestionOf, bound_fits}
use Rattle.report_text.specs.Readable.{is_moment, is_number, span_fits}
use Rattle.rule_meaning.specs.State.{value}
use Rattle.rule_types.specs.Keys.{is_input}
use Rattle.rule_types.specs.declared.rules.Rules.{Rules}
use Rattle.rule_types.specs.declared.state.State.{State}
use Rattle.verdict_meaning.specs.Questions.{grid_keys, has_moments}
use Rattle.verdict_meaning.specs.declared.cell.Cell.{Cell}
use Rattle.verdict_meaning.specs.declared.cert.Cert.{Cert}
use Rattle.verdict_meaning.specs.declared.cert.Cert.TheFolds.{fold-Cert}
use Rattle.verdict_meaning.specs.declared.cert.Cert.TheOpen.{Cert-F}
use Rattle.verdict_meaning.specs.declared.question.Question.{Question}
use Rattle.verdict_meaning.specs.declared.verdict.Stuck.{Stuck}
use Rattle.verdict_meaning.specs.declared.verdict.Stuck.TheVariants as stuck
use Rattle.verdict_meaning.specs.declared.verdict.Verdict.{Verdict}
use Rattle.verdict_meaning.specs.declared.verdict.Verdict.TheVariants as verdict
use Rattle.verdict_commands.specs.declared.prepared.Prepared.{Prepared}

-- ---- numbers and moments as programs hold them
-- whether those of a certificate are: each number in lowest terms and of at most 63 bits, each
-- moment in the years 1 to 9999
unfoldable pub node_numbers_fit : Cert-F Bool → Bool
node_numbers_fit (Cert-F.Leaf reason) = true
node_numbers_fit (Cert-F.Split key q below at above) =
    is_number q && (below && (at && above))
node_numbers_fit (Cert-F.Before moment before later) = is_moment moment && (before && later)

unfoldable pub numbers_fit : Cert → Bool
numbers_fit = fold-Cert Bool node_numbers_fit

-- whether the ends of a piece are
abbrev pub ends_fit : Interval → Bool
ends_fit piece = bound_fits piece.low && bound_fits piece.high

-- the ends of a cell's pieces are, and it has moments, which rise, exactly where its question has
-- them
pub record CellFits (x : Rules) (question : Question) (cell : Cell) : Type 0 where
  pub ends : IsTrue (list_all (λ entry. ends_fit entry.1) cell.keys)
  pub moments : IsTrue (span_fits (has_moments x question) cell.moments)

-- the values of a state for the keys of its question are, and so is its moment
pub record StateFits (x : Rules) (question : Question) (s : State) : Type 0 where
  pub numbers :
      All (λ key. IfSome (value x s key) (λ q. IsTrue (is_number q))) (grid_keys x question)
  pub moment : IsTrue (is_moment s.moment)

-- ---- verdicts
abbrev pub StuckFits : Rules → Question → Stuck → Type 0
StuckFits x question (stuck.Cell cell) = CellFits x question cell
StuckFits x question (stuck.TooManyCells count) = Unit {0}

-- the numbers of a verdict fit; and of a certificate, whose lines name keys, each key of the
-- question is found by its words
abbrev pub VerdictFits : Rules → Objects → Question → Verdict → Type 0
VerdictFits x objects question (verdict.Holds tree) =
    All (IsFoundKey objects) (grid_keys x question) × IsTrue (numbers_fit tree)
VerdictFits x objects question (verdict.Refuted s) = StateFits x question s
VerdictFits x objects question (verdict.Undecided why) = StuckFits x question why

-- a question is one on the rules, whose link is found by its name, and its verdict fits it
pub record EntryFits (x : Rules) (objects : Objects) (question : Question) (answer : Verdict) :
    Type 0 where
  pub question_on : IsQuestionOf (known_of x objects) question
  pub answer_fits : VerdictFits x objects question answer

-- ---- reports
-- the names of objects can stand in a line, the keys that a trace gives are such as it can give,
-- and each question and its verdict fit
pub record ReportFits (p : Prepared) (verdicts : List Verdict) : Type 0 where
  pub names : AreLineNames p.project.objects
  pub inputs : All (λ key. IsTrue (is_input key)) p.project.rules.input_keys
  pub entries :
      AllZip (EntryFits p.project.rules p.project.objects) p.ranges.questions verdicts
