-- Each table that a rule names is used by a control line.
use Rattle.std.proofs.Common.{◌≡◌, ℕ, ◌<◌, Bool, true, false, cond, List, [], ◌∷◌, length, Option, None, Some, Result, Ok, Err, refl, sym, subst, ap, ◌∙◌}
use Rattle.std.specs.Prelude.{IfOk, IfSome, All, ⊤, slice_get, option_map}
use Rattle.std.proofs.lemmas.Bool.{eq-eqb}
use Rattle.std.proofs.lemmas.List.Elements.{All-nil, All-push, All-head, All-tail}
use Rattle.std.proofs.lemmas.List.Folds.{list_any_at}
use Rattle.inp_text.specs.Headings.{first_item}
use Rattle.inp_text.specs.Items.{items}
use Rattle.inp_text.specs.declared.source_line.SourceLine.{SourceLine}
use Rattle.key_words.specs.Words.{attribute_named}
use Rattle.object_index.specs.Objects.{Objects}
use Rattle.rule_types.specs.Finding.{Found, Nothing, At, Several, finds}
use Rattle.rule_types.specs.declared.action.Action.{Action}
use Rattle.rule_types.specs.declared.action.PidSet.{PidSet}
use Rattle.rule_types.specs.declared.action.What.{What}
use Rattle.rule_types.specs.declared.action.What.TheVariants as what
use Rattle.rule_types.specs.declared.condition.Condition.{Condition}
use Rattle.rule_types.specs.declared.key.Attr.{Attr}
use Rattle.rule_types.specs.declared.key.Attr.TheVariants as attributes
use Rattle.exact_fraction.specs.Number.{Rational}
use Rattle.rule_types.specs.declared.names.NameKind.TheVariants.{Variable, Formula}
use Rattle.rule_types.specs.declared.object.ObjectNo.{ObjectNo}
use Rattle.rule_types.specs.declared.object.ObjectWord.{ObjectWord}
use Rattle.rule_types.specs.declared.refusal.Cause.TheVariants.{UnknownAttribute}
use Rattle.rule_types.specs.declared.refusal.Refusal.{Refusal}
use Rattle.rule_types.specs.declared.rule.Rule.{Rule}
use Rattle.control_lines.specs.Faults.{FaultText, Checked, both, then_with, fault_of}
use Rattle.control_lines.specs.Statements as statements
use Rattle.control_lines.specs.Statements.{Item, Statement, ActionText, ValueText, Plain, Curve, Series, Pid, statement_of}
use Rattle.control_lines.specs.declared.clause.Stage.{Stage}
use Rattle.curves_series.specs.Names.{NamedTables, curve_word, series_word, name_used, is_at, finds_at, line_uses, is_used, curve_found, series_found, series_numbered}
use Rattle.rule_parser.specs.Actions.{table_from, pid_read, setting_read, status_read, value_set, set_by, can_set, action_from, action_read}
use Rattle.rule_parser.specs.Conditions.{object_read}
use Rattle.rule_parser.specs.Controls.{Context, no_draft, with_last, draft_rules, with_name, new_rule, with_head, and_condition, with_condition, and_action, with_action, and_priority, with_priority}
use Rattle.rule_parser.specs.Controls.{statement_read, is_else}
use Rattle.rule_parser.specs.Controls.{order_read, finished, draft_after, line_read, is_end, after_line, controls_from}
use Rattle.rule_parser.specs.declared.draft.Draft.{Draft}
use Rattle.rule_parser.proofs.Parts.{checked_holds}
use Rattle.rule_parser.proofs.TableNames.{ValueNames, StatementNames, statement_names, place_below}

-- ---- the table of an action
-- a series that is marked is a file series
abbrev pub IsNoFile : Option Bool → Type 0
IsNoFile None = ⊤
IsNoFile (Some true) = ⊥
IsNoFile (Some false) = ⊤

-- a control line uses the table that a value names, and it is one that can be read
abbrev pub UsesTable : List SourceLine → NamedTables → What → Type 0
UsesTable controls named (what.Constant q) = ⊤
UsesTable controls named (what.Curve number) =
    (is_used curve_word controls named.curves number.index ≡ true) × (number.index < length named.curves)
UsesTable controls named (what.Series number) =
    (is_used series_word controls named.series number.index ≡ true) × (number.index < length named.series)
    × IsNoFile (slice_get named.file_series number.index)
UsesTable controls named (what.Pid set number) = ⊤

-- a table that some items name is used
abbrev pub ItemsUse : List SourceLine → List Item → Type 0
ItemsUse controls found = (word : List ℕ) (names : List (List ℕ)) (place : ℕ)
    → finds_at names place (name_used word found) ≡ true → is_used word controls names place ≡ true

pub all_use : (controls : List SourceLine) → All (λ line. ItemsUse controls (items line.bytes)) controls
unfolding is_used
all_use controls k d lt = λ word names place e. list_any_at (line_uses word names place) controls k d lt e

-- a name in items finds a table
found_used : (controls : List SourceLine) (found : List Item) (word name : List ℕ) (names : List (List ℕ)) (place : ℕ)
    → ItemsUse controls found → name_used word found ≡ Some name → finds names name ≡ At place
    → is_used word controls names place ≡ true
found_used controls found word name names place h e f =
    h word names place (ap (finds_at names place) e ∙ ap (is_at place) f ∙ eq-eqb place place refl)

curve_uses : (controls : List SourceLine) (named : NamedTables) (found : List Item) (name : List ℕ) (place : Found)
    → ItemsUse controls found → name_used curve_word found ≡ Some name → finds named.curves name ≡ place
    → IfOk (then_with what.Curve (table_from (curve_found place) name)) (UsesTable controls named)
curve_uses controls named found name Nothing h e f = tt
curve_uses controls named found name Several h e f = tt
curve_uses controls named found name (At place) h e f =
    (found_used controls found curve_word name named.curves place h e f, place_below named.curves name place f)

series_marked : (controls : List SourceLine) (named : NamedTables) (name : List ℕ) (place : ℕ) (mark : Option Bool)
    → slice_get named.file_series place ≡ mark
    → is_used series_word controls named.series place ≡ true → place < length named.series
    → IfOk (then_with what.Series (table_from (series_numbered place mark) name)) (UsesTable controls named)
series_marked controls named name place None e h lt = (h, lt, subst IsNoFile (sym e) tt)
series_marked controls named name place (Some true) e h lt = tt
series_marked controls named name place (Some false) e h lt = (h, lt, subst IsNoFile (sym e) tt)

series_uses : (controls : List SourceLine) (named : NamedTables) (found : List Item) (name : List ℕ) (place : Found)
    → ItemsUse controls found → name_used series_word found ≡ Some name → finds named.series name ≡ place
    → IfOk (then_with what.Series (table_from (series_found named.file_series place) name)) (UsesTable controls named)
series_uses controls named found name Nothing h e f = tt
series_uses controls named found name Several h e f = tt
series_uses controls named found name (At place) h e f =
    series_marked controls named name place (slice_get named.file_series place) refl
    (found_used controls found series_word name named.series place h e f) (place_below named.series name place f)

constant_uses : (controls : List SourceLine) (named : NamedTables) (read : Checked Rational)
    → IfOk (then_with what.Constant read) (UsesTable controls named)
constant_uses controls named (Ok q) = tt
constant_uses controls named (Err fault) = tt

pid_uses : (controls : List SourceLine) (named : NamedTables) (pids : ℕ) (read : Checked PidSet)
    → IfOk (then_with (λ set. what.Pid set pids) read) (UsesTable controls named)
pid_uses controls named pids (Ok set) = tt
pid_uses controls named pids (Err fault) = tt

setting_uses : (controls : List SourceLine) (named : NamedTables) (found : List Item) (pids : ℕ) (value : ValueText)
    → ItemsUse controls found → ValueNames found value
    → IfOk (setting_read named pids value) (UsesTable controls named)
setting_uses controls named found pids (Plain item) h e = constant_uses controls named _
setting_uses controls named found pids (Curve table) h e =
    curve_uses controls named found table.name (finds named.curves table.name) h e refl
setting_uses controls named found pids (Series table) h e =
    series_uses controls named found table.name (finds named.series table.name) h e refl
setting_uses controls named found pids (Pid pid) h e = pid_uses controls named pids (pid_read pid)

status_uses : (controls : List SourceLine) (named : NamedTables) (value : ValueText)
    → IfOk (status_read value) (UsesTable controls named)
status_uses controls named (Plain item) = constant_uses controls named _
status_uses controls named (Curve table) = tt
status_uses controls named (Series table) = tt
status_uses controls named (Pid pid) = tt

value_uses : (controls : List SourceLine) (named : NamedTables) (pids : ℕ) (attribute : Attr) (value : ValueText)
    → IfOk (setting_read named pids value) (UsesTable controls named)
    → IfOk (value_set named pids attribute value) (UsesTable controls named)
value_uses controls named pids attributes.Status value h = status_uses controls named value
value_uses controls named pids attributes.Intensity value h = h
value_uses controls named pids (attributes.HourDepth hours) value h = h
value_uses controls named pids attributes.Depth value h = h
value_uses controls named pids attributes.MaxDepth value h = h
value_uses controls named pids attributes.FullDepth value h = h
value_uses controls named pids attributes.Head value h = h
value_uses controls named pids attributes.Volume value h = h
value_uses controls named pids attributes.Inflow value h = h
value_uses controls named pids attributes.Flow value h = h
value_uses controls named pids attributes.FullFlow value h = h
value_uses controls named pids attributes.Velocity value h = h
value_uses controls named pids attributes.Length value h = h
value_uses controls named pids attributes.Slope value h = h
value_uses controls named pids attributes.Setting value h = h
value_uses controls named pids attributes.TimeOpen value h = h
value_uses controls named pids attributes.TimeClosed value h = h

tested : {A : Type 0} (P : A → Type 0) (b : Bool) (read : Checked A) (fault : FaultText) → IfOk read P
    → IfOk (cond b read (Err fault)) P
tested P true read fault h = h
tested P false read fault h = tt

set_uses : (controls : List SourceLine) (named : NamedTables) (pids : ℕ) (word : ObjectWord) (attribute : Option Attr)
    (item : Item) (value : ValueText) → IfOk (setting_read named pids value) (UsesTable controls named)
    → IfOk (set_by named pids word attribute item value) (UsesTable controls named)
set_uses controls named pids word None item value h = tt
set_uses controls named pids word (Some attribute) item value h =
    tested (UsesTable controls named) (can_set word attribute) (value_set named pids attribute value)
    (fault_of UnknownAttribute item) (value_uses controls named pids attribute value h)

from_value : (P : What → Type 0) (object : Checked ObjectNo) (value : Checked What) → IfOk value P
    → IfOk (action_from object value) (λ action. P action.what)
unfolding both
from_value P (Ok object) (Ok value) h = h
from_value P (Ok object) (Err fault) h = tt
from_value P (Err fault) (Ok value) h = tt
from_value P (Err fault) (Err other) h = tt

pub action_uses : (controls : List SourceLine) (objects : Objects) (named : NamedTables) (found : List Item) (pids : ℕ)
    (written : ActionText) → ItemsUse controls found → ValueNames found written.value
    → IfOk (action_read objects named pids written) (λ action. UsesTable controls named action.what)
unfolding action_read
action_uses controls objects named found pids written h e =
    from_value (UsesTable controls named) (object_read objects written.target.word written.target.name)
    (set_by named pids written.target.word (attribute_named written.target.attribute) written.target.attribute written.value)
    (set_uses controls named pids written.target.word (attribute_named written.target.attribute) written.target.attribute
    written.value (setting_uses controls named found pids written.value h e))

-- ---- drafts, of whose actions each has P
pub record RuleHas (P : What → Type 0) (rule : Rule) : Type 0 where
  pub then_actions : All (λ action. P action.what) rule.then_actions
  pub else_actions : All (λ action. P action.what) rule.else_actions

pub record DraftHas (P : What → Type 0) (draft : Draft) : Type 0 where
  pub closed : All (RuleHas P) draft.closed
  pub last : IfSome draft.last (RuleHas P)

has_all : (P : What → Type 0) (closed : List Rule) (last : Option Rule) → All (RuleHas P) closed
    → IfSome last (RuleHas P) → All (RuleHas P) (with_last closed last)
has_all P closed None h k = h
has_all P closed (Some rule) h k = All-push (RuleHas P) closed rule h k

-- all rules of a draft
pub rules_have : (P : What → Type 0) (draft : Draft) → DraftHas P draft → All (RuleHas P) (draft_rules draft)
rules_have P draft h = has_all P draft.closed draft.last h.closed h.last

new_has : (P : What → Type 0) (id : List ℕ) → RuleHas P (new_rule id)
new_has P id = record {
  then_actions = All-nil (λ action. P action.what);
  else_actions = All-nil (λ action. P action.what);
}

condition_has : (P : What → Type 0) (condition : Condition) (last : Option Rule) → IfSome last (RuleHas P)
    → IfSome (option_map (and_condition condition) last) (RuleHas P)
condition_has P condition None h = tt
condition_has P condition (Some rule) h = record { then_actions = h.then_actions; else_actions = h.else_actions }

action_has : (P : What → Type 0) (otherwise : Bool) (action : Action) (last : Option Rule) → P action.what
    → IfSome last (RuleHas P) → IfSome (option_map (and_action otherwise action) last) (RuleHas P)
action_has P otherwise action None p h = tt
action_has P true action (Some rule) p h = record {
  then_actions = h.then_actions;
  else_actions = All-push (λ action. P action.what) rule.else_actions action h.else_actions p;
}
action_has P false action (Some rule) p h = record {
  then_actions = All-push (λ action. P action.what) rule.then_actions action h.then_actions p;
  else_actions = h.else_actions;
}

priority_has : (P : What → Type 0) (priority : Rational) (last : Option Rule) → IfSome last (RuleHas P)
    → IfSome (option_map (and_priority priority) last) (RuleHas P)
priority_has P priority None h = tt
priority_has P priority (Some rule) h = record { then_actions = h.then_actions; else_actions = h.else_actions }

-- ---- statements
always : {A B : Type 0} (Q : B → Type 0) (f : A → B) (read : Checked A) → ((x : A) → Q (f x))
    → IfOk (then_with f read) Q
always Q f (Ok x) h = h x
always Q f (Err fault) h = tt

anything : {A : Type 0} (read : Checked A) → IfOk read (λ x. ⊤)
anything (Ok x) = tt
anything (Err fault) = tt

-- the action of a statement, if it is one, has P
abbrev StatementHas : (What → Type 0) → Context → Draft → Statement → Type 0
StatementHas P context draft (statements.Variable name key) = ⊤
StatementHas P context draft (statements.Expression name formula) = ⊤
StatementHas P context draft (statements.Head id) = ⊤
StatementHas P context draft (statements.Condition written) = ⊤
StatementHas P context draft (statements.Action written) =
    IfOk (action_read context.objects context.tables draft.pids written) (λ action. P action.what)
StatementHas P context draft (statements.Priority number) = ⊤

statement_has : (P : What → Type 0) (context : Context) (draft : Draft) (statement : Statement)
    → StatementHas P context draft statement → DraftHas P draft
    → IfOk (statement_read context draft statement) (DraftHas P)
unfolding statement_read
statement_has P context draft (statements.Variable name key) h k =
    always (DraftHas P) (λ key. with_name draft name (Variable key)) _
    (λ key. record { closed = k.closed; last = k.last })
statement_has P context draft (statements.Expression name formula) h k =
    always (DraftHas P) (λ formula. with_name draft name (Formula formula)) _
    (λ found. record { closed = k.closed; last = k.last })
statement_has P context draft (statements.Head id) h k =
    always (DraftHas P) (λ room. with_head draft id) _
    (λ room. record { closed = rules_have P draft k; last = new_has P id })
statement_has P context draft (statements.Condition written) h k =
    always (DraftHas P) (with_condition draft) _
    (λ condition. record { closed = k.closed; last = condition_has P condition draft.last k.last })
statement_has P context draft (statements.Action written) h k =
    checked_holds (λ action. P action.what) (λ room. ⊤) (DraftHas P) (with_action (is_else written.word draft.last) draft)
    _ (action_read context.objects context.tables draft.pids written) (anything _) h
    (λ room any action p. record {
      closed = k.closed;
      last = action_has P (is_else written.word draft.last) action draft.last p k.last;
    })
statement_has P context draft (statements.Priority number) h k =
    always (DraftHas P) (with_priority draft) _
    (λ priority. record { closed = k.closed; last = priority_has P priority draft.last k.last })

staged : (P : What → Type 0) (order : Checked Stage) (read : Checked Draft) → IfOk read (DraftHas P)
    → IfOk (finished order read) (DraftHas P)
unfolding both
staged P (Ok stage) (Ok draft) h = record { closed = h.closed; last = h.last }
staged P (Ok stage) (Err fault) h = tt
staged P (Err fault) (Ok draft) h = tt
staged P (Err fault) (Err other) h = tt

-- ---- lines
-- a statement whose items name its table
uses_statement : (controls : List SourceLine) (context : Context) (draft : Draft) (found : List Item) (statement : Statement)
    → ItemsUse controls found → StatementNames found statement
    → StatementHas (UsesTable controls context.tables) context draft statement
uses_statement controls context draft found (statements.Variable name key) h e = tt
uses_statement controls context draft found (statements.Expression name formula) h e = tt
uses_statement controls context draft found (statements.Head id) h e = tt
uses_statement controls context draft found (statements.Condition written) h e = tt
uses_statement controls context draft found (statements.Action written) h e =
    action_uses controls context.objects context.tables found draft.pids written h e
uses_statement controls context draft found (statements.Priority number) h e = tt

after_uses : (controls : List SourceLine) (context : Context) (draft : Draft) (is_last : Bool) (token : Item)
    (found : List Item) (statement : Option Statement) → ItemsUse controls found
    → IfSome statement (StatementNames found) → DraftHas (UsesTable controls context.tables) draft
    → IfOk (draft_after context draft is_last token statement) (DraftHas (UsesTable controls context.tables))
after_uses controls context draft is_last token found None h e k = tt
after_uses controls context draft is_last token found (Some statement) h e k =
    staged (UsesTable controls context.tables) (order_read draft.stage statement is_last token)
    (statement_read context draft statement)
    (statement_has (UsesTable controls context.tables) context draft statement
    (uses_statement controls context draft found statement h e) k)

line_uses_table : (controls : List SourceLine) (context : Context) (draft : Draft) (is_last : Bool) (line : List ℕ)
    → ItemsUse controls (items line) → DraftHas (UsesTable controls context.tables) draft
    → IfOk (line_read context draft is_last line) (DraftHas (UsesTable controls context.tables))
unfolding line_read
line_uses_table controls context draft is_last line h k =
    after_uses controls context draft is_last (first_item line) (items line) (statement_of draft.stage (items line)) h
    (statement_names draft.stage (items line)) k

goes_on : (P : What → Type 0) (number : ℕ) (read : Checked Draft) (later : Draft → Result Draft Refusal)
    → IfOk read (DraftHas P) → ((draft : Draft) → DraftHas P draft → IfOk (later draft) (DraftHas P))
    → IfOk (after_line number read later) (DraftHas P)
goes_on P number (Ok draft) later h k = k draft h
goes_on P number (Err fault) later h k = tt

from_uses : (controls : List SourceLine) (context : Context) (draft : Draft) (lines : List SourceLine)
    → All (λ line. ItemsUse controls (items line.bytes)) lines → DraftHas (UsesTable controls context.tables) draft
    → IfOk (controls_from context draft lines) (DraftHas (UsesTable controls context.tables))
from_uses controls context draft [] h k = k
from_uses controls context draft (line ∷ later) h k =
    goes_on (UsesTable controls context.tables) line.number (line_read context draft (is_end later) line.bytes)
    (λ next. controls_from context next later)
    (line_uses_table controls context draft (is_end later) line.bytes
    (All-head (λ line. ItemsUse controls (items line.bytes)) line later h) k)
    (λ next m. from_uses controls context next later
    (All-tail (λ line. ItemsUse controls (items line.bytes)) line later h) m)

-- the actions of all control lines use their tables
pub controls_use : (context : Context) (controls : List SourceLine)
    → IfOk (controls_from context no_draft controls) (DraftHas (UsesTable controls context.tables))
controls_use context controls =
    from_uses controls context no_draft controls (all_use controls)
    (record { closed = All-nil (RuleHas (UsesTable controls context.tables)); last = tt })
