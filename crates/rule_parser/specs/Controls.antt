-- The lines of [CONTROLS] in their order, to the first one that is refused (SWMM 5.2 manual,
-- [CONTROLS]).
use Rattle.std.specs.Prelude.{ℕ, Bool, true, false, not, ◌&&◌, ◌+◌, if◌then◌else◌}
use Rattle.std.specs.Prelude.{List, [], ◌∷◌, ◌++◌, length, codes, Option, None, Some}
use Rattle.std.specs.Prelude.{Result, Ok, Err}
use Rattle.std.specs.Option.{option_map}
use Rattle.exact_fraction.specs.Number.{Rational}
use Rattle.inp_text.specs.Headings.{first_item}
use Rattle.inp_text.specs.Items.{items}
use Rattle.inp_text.specs.declared.source_line.SourceLine.{SourceLine}
use Rattle.object_index.specs.Objects.{Objects}
use Rattle.rule_types.specs.declared.action.Action.{Action}
use Rattle.rule_types.specs.declared.condition.Condition.{Condition}
use Rattle.rule_types.specs.declared.expr.Expr.{Expr}
use Rattle.rule_types.specs.declared.names.NameKind.{NameKind}
use Rattle.rule_types.specs.declared.names.NameKind.TheVariants.{Variable, Formula}
use Rattle.rule_types.specs.declared.refusal.Cause.TheVariants.{BadClause, ClauseOrder}
use Rattle.rule_types.specs.declared.refusal.Refusal.{Refusal}
use Rattle.rule_types.specs.declared.rule.Rule.{Rule}
use Rattle.rule_types.specs.Reading.{pid_of}
use Rattle.control_lines.specs.Clauses.{next_stage, is_complete}
use Rattle.control_lines.specs.Faults.{Checked, then_with, both, fault_of, refusal_on}
use Rattle.control_lines.specs.Statements as statements
use Rattle.control_lines.specs.Statements.{Statement, KeyText, statement_of, clause_of}
use Rattle.control_lines.specs.declared.clause.Stage.{Stage}
use Rattle.control_lines.specs.declared.clause.Stage.TheVariants.{Outside}
use Rattle.control_lines.specs.declared.statement.ActionWord.{ActionWord}
use Rattle.control_lines.specs.declared.statement.ActionWord.TheVariants as action_words
use Rattle.curves_series.specs.Names.{NamedTables}
use Rattle.rule_parser.specs.Actions.{action_read}
use Rattle.rule_parser.specs.Conditions.{key_read, condition_read}
use Rattle.rule_parser.specs.Declarations.{name_read, and_name}
use Rattle.network_lines.specs.Limits.{room_for}
use Rattle.rule_parser.specs.Formulas.{formula_read}
use Rattle.rule_parser.specs.Limits.{most_rules, most_conditions, most_actions}
use Rattle.rule_parser.specs.declared.draft.Draft.{Draft}
use Rattle.network_lines.specs.Values.{value_read}
use Rattle.network_lines.specs.declared.value.ValueKind.TheVariants as values

-- what control lines are read against: the objects and the tables of the file
pub record Context : Type 0 where
  pub objects : Objects
  pub tables : NamedTables

-- nothing is read so far
abbrev pub no_draft : Draft
no_draft = record { stage = Outside; names = []; closed = []; last = None; pids = 0 }

-- all rules of a draft
abbrev pub with_last : List Rule → Option Rule → List Rule
with_last rules None = rules
with_last rules (Some rule) = rules ++ rule ∷ []

abbrev pub draft_rules : Draft → List Rule
draft_rules draft = with_last draft.closed draft.last

-- ---- drafts with one statement more
abbrev pub with_name : Draft → List ℕ → NameKind → Draft
with_name draft name kind = record draft { names = and_name draft.names name kind }

-- a rule that only has its id
abbrev pub new_rule : List ℕ → Rule
new_rule id =
    record { id = id; conditions = []; then_actions = []; else_actions = []; priority = None }

abbrev pub with_head : Draft → List ℕ → Draft
with_head draft id = record draft { closed = draft_rules draft; last = Some (new_rule id) }

abbrev pub and_condition : Condition → Rule → Rule
and_condition condition rule = record rule { conditions = rule.conditions ++ condition ∷ [] }

abbrev pub with_condition : Draft → Condition → Draft
with_condition draft condition =
    record draft { last = option_map (and_condition condition) draft.last }

-- an action of the THEN or of the ELSE part
abbrev pub and_action : Bool → Action → Rule → Rule
and_action true action rule = record rule { else_actions = rule.else_actions ++ action ∷ [] }
and_action false action rule = record rule { then_actions = rule.then_actions ++ action ∷ [] }

abbrev pub with_action : Bool → Draft → Action → Draft
with_action otherwise draft action = record draft {
  last = option_map (and_action otherwise action) draft.last;
  pids = draft.pids + length (pid_of action.what);
}

abbrev pub and_priority : Rational → Rule → Rule
and_priority priority rule = record rule { priority = Some priority }

abbrev pub with_priority : Draft → Rational → Draft
with_priority draft priority = record draft { last = option_map (and_priority priority) draft.last }

-- ---- statements
-- how many conditions the last rule has, and how many actions in one of its parts
abbrev pub condition_count : Option Rule → ℕ
condition_count None = 0
condition_count (Some rule) = length rule.conditions

abbrev pub action_count : Bool → Option Rule → ℕ
action_count otherwise None = 0
action_count true (Some rule) = length rule.else_actions
action_count false (Some rule) = length rule.then_actions

-- whether an action belongs to the ELSE part: ELSE does, and AND where an action of ELSE is before
-- it
abbrev pub is_else : ActionWord → Option Rule → Bool
is_else action_words.Then last = false
is_else action_words.Else last = true
is_else action_words.And None = false
is_else action_words.And (Some rule) = has_else rule.else_actions where
  has_else : List Action → Bool
  has_else [] = false
  has_else (action ∷ more) = true

-- a value that is read beside a check
abbrev pub beside : {A B : Type 0} → Checked B → Checked A → Checked A
beside check value = then_with (λ found. found.1) (both check value)

-- the draft after a statement of each kind, whatever its stage, or what is reported of it
abbrev pub variable_read : Context → Draft → List ℕ → KeyText → Checked Draft
variable_read context draft name key =
    then_with (λ key. with_name draft name (Variable key))
    (beside (name_read draft.names name) (key_read context.objects key))

abbrev pub expression_read : Draft → List ℕ → Checked Expr → Checked Draft
expression_read draft name formula =
    then_with (λ formula. with_name draft name (Formula formula))
    (beside (name_read draft.names name) formula)

abbrev pub head_read : Draft → List ℕ → Checked Draft
head_read draft id =
    then_with (λ room. with_head draft id)
    (room_for (codes "rules") most_rules (length (draft_rules draft)))

abbrev pub condition_added : Draft → Checked Condition → Checked Draft
condition_added draft condition =
    then_with (with_condition draft)
    (beside (room_for (codes "conditions") most_conditions (condition_count draft.last)) condition)

abbrev pub action_added : Draft → Bool → Checked Action → Checked Draft
action_added draft otherwise action =
    then_with (with_action otherwise draft)
    (beside (room_for (codes "actions") most_actions (action_count otherwise draft.last)) action)

abbrev pub priority_read : Draft → List ℕ → Checked Draft
priority_read draft number = then_with (with_priority draft) (value_read values.Number number)

-- the draft after a statement, whatever its stage, or what is reported of the statement
unfoldable pub statement_read : Context → Draft → Statement → Checked Draft
statement_read context draft (statements.Variable name key) =
    variable_read context draft name key
statement_read context draft (statements.Expression name formula) =
    expression_read draft name (formula_read draft.names name formula)
statement_read context draft (statements.Head id) = head_read draft id
statement_read context draft (statements.Condition written) =
    condition_added draft (condition_read context.objects draft.names written)
statement_read context draft (statements.Action written) =
    action_added draft (is_else written.word draft.last)
    (action_read context.objects context.tables draft.pids written)
statement_read context draft (statements.Priority number) = priority_read draft number

-- ---- lines
-- the stage after a statement: it may come there, and the last one of a file leaves no rule
-- unfinished
abbrev pub order_from : Option Stage → Bool → List ℕ → Checked Stage
order_from None is_last token = Err (fault_of ClauseOrder token)
order_from (Some stage) is_last token =
    if is_last && not (is_complete stage) then Err (fault_of ClauseOrder token) else Ok stage

abbrev pub order_read : Stage → Statement → Bool → List ℕ → Checked Stage
order_read stage statement is_last token =
    order_from (next_stage stage (clause_of statement)) is_last token

abbrev pub at_stage : Draft → Stage → Draft
at_stage draft stage = record draft { stage = stage }

-- the draft at the stage after a statement
abbrev pub finished : Checked Stage → Checked Draft → Checked Draft
finished order draft =
    then_with (λ (found : Stage × Draft). at_stage found.1 found.0) (both order draft)

-- the draft after a statement of the file, whose first item is `token`
abbrev pub draft_after : Context → Draft → Bool → List ℕ → Option Statement → Checked Draft
draft_after context draft is_last token None = Err (fault_of BadClause token)
draft_after context draft is_last token (Some statement) =
    finished (order_read draft.stage statement is_last token)
    (statement_read context draft statement)

-- the draft after a line
unfoldable pub line_read : Context → Draft → Bool → List ℕ → Checked Draft
line_read context draft is_last line =
    draft_after context draft is_last (first_item line) (statement_of draft.stage (items line))

-- nothing is left
abbrev pub is_end : List SourceLine → Bool
is_end [] = true
is_end (line ∷ later) = false

-- what comes after a line: the refusal by its fault, or what the later lines give
abbrev pub after_line :
    ℕ → Checked Draft → (Draft → Result Draft Refusal) → Result Draft Refusal
after_line number (Err fault) later = Err (refusal_on number fault)
after_line number (Ok draft) later = later draft

-- the draft after all lines, or the refusal of the first line that is at fault
abbrev pub controls_from : Context → Draft → List SourceLine → Result Draft Refusal
controls_from context draft [] = Ok draft
controls_from context draft (line ∷ later) =
    after_line line.number (line_read context draft (is_end later) line.bytes)
    (λ next. controls_from context next later)
