-- Which questions and verdicts are read back from the lines that are written of them.
use Rattle.std.specs.Prelude.{◌≡◌, ℕ, zero, suc, ◌<◌, ◌^◌, Bool, true, false, not, ◌&&◌, ◌==◌}
use Rattle.std.specs.Prelude.{IsTrue, ℤ, int_le, int_lt}
use Rattle.std.specs.Prelude.{Option, None, Some, Ok, List, [], ◌∷◌, ◌++◌, map, All}
use Rattle.std.specs.Prelude.{unsigned_abs}
use Rattle.std.specs.BTreeMap.{insert_entry}
use Rattle.std.specs.List.{list_all}
use Rattle.exact_fraction.specs.Moments.{first_second, last_second}
use Rattle.exact_fraction.specs.Number.{Rational, den, fits, gcd}
use Rattle.exact_fraction.specs.Order.{less}
use Rattle.inp_text.specs.Sections.{Line}
use Rattle.interval_sets.specs.Intervals.{has_member}
use Rattle.interval_sets.specs.declared.interval.Bound.{Bound}
use Rattle.interval_sets.specs.declared.interval.Bound.TheVariants as end
use Rattle.interval_sets.specs.declared.interval.Interval.{Interval}
use Rattle.key_words.specs.KeyTexts.{name_text, space_word}
use Rattle.key_words.specs.Words.{has_word}
use Rattle.object_index.specs.Objects.{Objects, resolution}
use Rattle.range_lines.specs.Entries.{is_among}
use Rattle.rule_meaning.specs.State.{value}
use Rattle.rule_types.specs.KeyOrder.{key_cmp}
use Rattle.rule_types.specs.Keys.{has_attribute}
use Rattle.rule_types.specs.declared.key.Attr.{Attr}
use Rattle.rule_types.specs.declared.key.Key.{Key}
use Rattle.rule_types.specs.declared.key.Key.TheVariants.{Object, Clock}
use Rattle.rule_types.specs.declared.object.ObjectNo.{ObjectNo}
use Rattle.rule_types.specs.declared.object.ObjectWord.TheVariants.{Link}
use Rattle.rule_types.specs.declared.object.Space.TheVariants.{Links}
use Rattle.rule_types.specs.declared.rules.Rules.{Rules}
use Rattle.rule_types.specs.declared.state.State.{State}
use Rattle.verdict_meaning.specs.Grids.{sample_with}
use Rattle.verdict_meaning.specs.declared.cell.Cell.{Cell}
use Rattle.verdict_meaning.specs.declared.cert.Cert.{Cert}
use Rattle.verdict_meaning.specs.declared.cert.Cert.TheFolds.{fold-Cert}
use Rattle.verdict_meaning.specs.declared.cert.Cert.TheOpen.{Cert-F}
use Rattle.verdict_meaning.specs.declared.cert.Reason.{Reason}
use Rattle.verdict_meaning.specs.declared.cert.Reason.TheVariants.{Whole, Facts}
use Rattle.verdict_meaning.specs.declared.question.Question.{Question}
use Rattle.verdict_meaning.specs.declared.question.Question.TheVariants.{Conflict, Dead, Limit}
use Rattle.verdict_meaning.specs.declared.verdict.Stuck.{Stuck}
use Rattle.verdict_meaning.specs.declared.verdict.Stuck.TheVariants as stuck
use Rattle.verdict_meaning.specs.declared.verdict.Verdict.{Verdict}
use Rattle.verdict_meaning.specs.declared.verdict.Verdict.TheVariants as verdict
use Rattle.report_lines.specs.QuestionLines.{Known}
use Rattle.report_lines.specs.Reports.{known_of, grid_of}
use Rattle.report_lines.specs.StateLines.{is_present, setting_after, span_at}
use Rattle.report_lines.specs.TreeLines.{is_grid_key, is_asked_at, comes_behind, most_levels}
use Rattle.report_lines.specs.Words.{line_at, space}
use Rattle.report_lines.specs.declared.grid.Grid.{Grid}
use Rattle.report_text.specs.WrittenLines.{written_link}
use Rattle.report_text.specs.WrittenReports.{Texts, Asked}

-- these texts are the lines of a file from a place on
abbrev pub StandAt : List Line → ℕ → Texts → Type 0
StandAt lines at [] = Unit {0}
StandAt lines at (text ∷ more) = (line_at lines at ≡ Some text) × StandAt lines (suc at) more

-- ---- numbers and moments
-- a number in lowest terms that fits
abbrev pub is_number : Rational → Bool
is_number q = (gcd (unsigned_abs q.num) (den q) == 1) && fits q

-- a moment in the years 1 to 9999
abbrev pub is_moment : ℤ → Bool
is_moment second = int_le first_second second && int_le second last_second

-- ---- names
-- a name without a space
abbrev pub is_one_word : List ℕ → Bool
is_one_word = list_all (λ byte. not (byte == space))

-- a link that some action acts on, and that its name finds
pub record IsFoundLink (known : Known) (link : ℕ) : Type 0 where
  pub word : IsTrue (is_one_word (written_link known.objects link))
  pub found : resolution known.objects Link (written_link known.objects link)
      ≡ Ok (record { space = Links; index = link })
  pub acted : IsTrue (is_among link known.links)

-- an object's key that its words find
pub record IsFoundObject (objects : Objects) (object : ObjectNo) (attribute : Attr) : Type 0 where
  pub word : IsTrue (is_one_word (name_text objects object))
  pub found : resolution objects (space_word object.space) (name_text objects object) ≡ Ok object
  pub attribute_word : IsTrue (has_word attribute)
  pub row : IsTrue (has_attribute object.space attribute)

abbrev pub IsFoundKey : Objects → Key → Type 0
IsFoundKey objects (Object object attribute) = IsFoundObject objects object attribute
IsFoundKey objects (Clock attribute) = ⊥

-- ---- questions
pub record IsConflictOf (known : Known) (first second link : ℕ) : Type 0 where
  pub first_rule : first < known.rules
  pub second_rule : second < known.rules
  pub apart : (first == second) ≡ false
  pub found : IsFoundLink known link

pub record IsLimitOf (known : Known) (link : ℕ) (low high : Rational) : Type 0 where
  pub found : IsFoundLink known link
  pub low_number : IsTrue (is_number low)
  pub high_number : IsTrue (is_number high)
  pub rising : less high low ≡ false

-- a question on the rules
abbrev pub IsQuestionOf : Known → Question → Type 0
IsQuestionOf known (Conflict first second link) = IsConflictOf known first second link
IsQuestionOf known (Dead rule) = rule < known.rules
IsQuestionOf known (Limit link low high) = IsLimitOf known link low high

-- ---- states
-- keys with their values at a state: a value is there exactly where a reader looks for one, by the
-- last SETTING so far
abbrev pub IsTold : Bool → Option Rational → (Rational → Type 0) → Type 0 → Type 0
IsTold false None next later = later
IsTold false (Some q) next later = ⊥
IsTold true None next later = ⊥
IsTold true (Some q) next later = IsTrue (is_number q) × next q

abbrev pub AreTold : Rules → State → List Key → Option Rational → Type 0
AreTold x s [] setting = Unit {0}
AreTold x s (key ∷ more) setting =
    IsTold (is_present key setting) (value x s key)
    (λ q. AreTold x s more (setting_after key q setting)) (AreTold x s more setting)

-- the values of keys at a state, in key order, beside others
abbrev pub with_value : List (Key × Rational) → Key → Option Rational → List (Key × Rational)
with_value values key None = values
with_value values key (Some q) = insert_entry key_cmp values key q

abbrev pub values_with : Rules → State → List Key → List (Key × Rational) → List (Key × Rational)
values_with x s [] values = values
values_with x s (key ∷ more) values =
    values_with x s more (with_value values key (value x s key))

abbrev pub span_if : Bool → ℤ → Option (ℤ × ℤ)
span_if false moment = None
span_if true moment = span_at moment

-- a state that its values of the grid's keys, with its moment where the grid has moments, tell
-- whole, as a sample of a cell is
pub record IsGridState (x : Rules) (grid : Grid) (s : State) : Type 0 where
  pub told : AreTold x s grid.keys None
  pub moment : IsTrue (is_moment s.moment)
  pub whole : sample_with x (span_if grid.has_moments s.moment) (values_with x s grid.keys []) ≡ s

-- ---- cells
abbrev pub bound_fits : Bound → Bool
bound_fits end.NoBound = true
bound_fits (end.Bound q out) = is_number q

-- an interval with a member, whose ends are numbers
abbrev pub piece_fits : Interval → Bool
piece_fits piece =
    (bound_fits piece.low && bound_fits piece.high) && has_member piece.low piece.high

-- moments that rise, exactly where they are wanted
abbrev pub span_fits : Bool → Option (ℤ × ℤ) → Bool
span_fits false None = true
span_fits false (Some span) = false
span_fits true None = false
span_fits true (Some span) =
    (is_moment span.0 && is_moment span.1) && not (int_lt span.1 span.0)

-- a cell of a grid: a piece for each of its keys
pub record IsGridCell (grid : Grid) (cell : Cell) : Type 0 where
  pub keys : map (λ entry. entry.0) cell.keys ≡ grid.keys
  pub pieces : IsTrue (list_all (λ entry. piece_fits entry.1) cell.keys)
  pub moments : IsTrue (span_fits grid.has_moments cell.moments)

-- ---- trees
-- facts on rules of the question, each behind the one before
abbrev pub facts_rise : Grid → List (ℕ × Bool) → List (ℕ × Bool) → Bool
facts_rise grid [] before = true
facts_rise grid (fact ∷ more) before =
    (is_asked_at grid.asked fact.0 && comes_behind fact.0 before)
    && facts_rise grid more (before ++ fact ∷ [])

-- a leaf gives facts
abbrev pub reason_fits : Grid → Reason → Bool
reason_fits grid Whole = false
reason_fits grid (Facts facts) = facts_rise grid facts []

-- whether a tree has at most so many levels, splits keys of the grid at numbers and moments only
-- where the grid has them, and has facts of the question at its leaves
abbrev pub TreeTest : Type 0
TreeTest = ℕ → Bool

unfoldable pub node_fits : Grid → Cert-F TreeTest → TreeTest
node_fits grid (Cert-F.Leaf reason) zero = false
node_fits grid (Cert-F.Leaf reason) (suc levels) = reason_fits grid reason
node_fits grid (Cert-F.Split key q below at above) zero = false
node_fits grid (Cert-F.Split key q below at above) (suc levels) =
    (is_grid_key grid key && is_number q) && (below levels && (at levels && above levels))
node_fits grid (Cert-F.Before moment before later) zero = false
node_fits grid (Cert-F.Before moment before later) (suc levels) =
    (grid.has_moments && is_moment moment) && (before levels && later levels)

unfoldable pub tree_fits : Grid → Cert → TreeTest
tree_fits grid = fold-Cert TreeTest (node_fits grid)

-- whether the numbers and moments of a tree are in range, and its leaves give facts
unfoldable pub node_holds : Cert-F Bool → Bool
node_holds (Cert-F.Leaf Whole) = false
node_holds (Cert-F.Leaf (Facts facts)) = true
node_holds (Cert-F.Split key q below at above) = is_number q && (below && (at && above))
node_holds (Cert-F.Before moment before later) = is_moment moment && (before && later)

unfoldable pub tree_holds : Cert → Bool
tree_holds = fold-Cert Bool node_holds

-- ---- verdicts
abbrev pub IsGridStuck : Grid → Stuck → Type 0
IsGridStuck grid (stuck.Cell cell) = IsGridCell grid cell
IsGridStuck grid (stuck.TooManyCells count) = count < 2 ^ 64

-- a verdict whose parts are of the grid; of a tree, whose lines name keys, each key of the grid is
-- found by its words
abbrev pub IsGridVerdict : Rules → Objects → Grid → Verdict → Type 0
IsGridVerdict x objects grid (verdict.Holds tree) =
    All (IsFoundKey objects) grid.keys × IsTrue (tree_fits grid tree most_levels)
IsGridVerdict x objects grid (verdict.Refuted s) = IsGridState x grid s
IsGridVerdict x objects grid (verdict.Undecided why) = IsGridStuck grid why

-- ---- entries and reports
-- a question on the rules, and a verdict whose parts are of its grid
pub record IsEntryOf (x : Rules) (objects : Objects) (asked : Asked) : Type 0 where
  pub question : IsQuestionOf (known_of x objects) asked.0
  pub answer : IsGridVerdict x objects (grid_of x asked.0) asked.1
