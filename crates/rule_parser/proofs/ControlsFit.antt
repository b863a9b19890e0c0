-- What is read of all control lines fits.
use Rattle.std.proofs.Common.{◌≡◌, ℕ, ◌<◌, Bool, true, false, cond, List, [], ◌∷◌, ◌++◌, length, Option, None, Some, Result, Ok, Err, refl, subst, ap, ◌⊎◌, inl, inr, arith}
use Rattle.std.specs.Prelude.{IfOk, IfSome, IsSome, IsTrue, ◌&&◌, not, codes, ⊤}
use Rattle.std.proofs.lemmas.List.Elements.{All-nil}
use Rattle.inp_text.specs.Headings.{first_item}
use Rattle.inp_text.specs.Items.{items}
use Rattle.inp_text.specs.declared.source_line.SourceLine.{SourceLine}
use Rattle.object_index.specs.Holding.{HoldsRule, HoldsKind}
use Rattle.object_index.specs.Objects.{Objects}
use Rattle.rule_types.specs.Reading.{pid_numbers}
use Rattle.rule_types.specs.WellFormed.{RuleFits, FormulaFits}
use Rattle.rule_types.specs.declared.action.Action.{Action}
use Rattle.rule_types.specs.declared.condition.Condition.{Condition}
use Rattle.rule_types.specs.declared.expr.Expr.{Expr}
use Rattle.rule_types.specs.declared.names.NameDef.{NameDef}
use Rattle.rule_types.specs.declared.names.NameKind.TheVariants.{Variable, Formula}
use Rattle.rule_types.specs.declared.refusal.Refusal.{Refusal}
use Rattle.rule_types.specs.declared.rule.Rule.{Rule}
use Rattle.control_lines.specs.Clauses.{is_complete, next_stage}
use Rattle.control_lines.specs.Faults.{Checked, both, fault_of}
use Rattle.control_lines.specs.Statements as statements
use Rattle.control_lines.specs.Statements.{Item, Statement, KeyText, ConditionText, ActionText, clause_of, condition_clause, action_clause, statement_of}
use Rattle.control_lines.specs.declared.clause.Clause.TheVariants as clauses
use Rattle.control_lines.specs.declared.clause.Stage.{Stage}
use Rattle.control_lines.specs.declared.clause.Stage.TheVariants.{Outside, Headed, InPremise}
use Rattle.control_lines.specs.declared.clause.Stage.TheVariants.{InThen, InElse, Ranked}
use Rattle.control_lines.specs.declared.statement.ConditionWord.{ConditionWord}
use Rattle.control_lines.specs.declared.statement.ConditionWord.TheVariants as condition_words
use Rattle.control_lines.specs.declared.statement.ActionWord.{ActionWord}
use Rattle.control_lines.specs.declared.statement.ActionWord.TheVariants as action_words
use Rattle.expr_parser.specs.Names.{declared_names}
use Rattle.expr_parser.specs.Reading.{FaultAt, expr_in}
use Rattle.expr_parser.proofs.PublicLaws.{formulas_read-fits}
use Rattle.network_lines.specs.Limits.{room_for}
use Rattle.network_lines.specs.Values.{value_read}
use Rattle.network_lines.specs.declared.value.ValueKind.TheVariants as values
use Rattle.rule_parser.specs.Actions.{action_read}
use Rattle.rule_parser.specs.Conditions.{key_read, condition_read, begins_group}
use Rattle.rule_types.specs.declared.refusal.Cause.TheVariants.{ClauseOrder}
use Rattle.rule_parser.specs.Controls.{Context, no_draft, draft_rules, with_name, with_head, with_condition, with_action, with_priority}
use Rattle.rule_parser.specs.Controls.{variable_read, expression_read, head_read, condition_added, action_added, priority_read}
use Rattle.rule_parser.specs.Controls.{statement_read, is_else, condition_count, action_count, at_stage}
use Rattle.rule_parser.specs.Controls.{order_from, order_read, finished, draft_after, line_read, is_end, after_line, controls_from}
use Rattle.rule_parser.specs.Declarations.{name_read}
use Rattle.rule_parser.specs.Formulas.{joined, formula_from, formula_read}
use Rattle.rule_parser.specs.Limits.{most_rules, most_names, most_conditions, most_actions}
use Rattle.rule_parser.specs.declared.draft.Draft.{Draft}
use Rattle.rule_parser.specs.internal.Fitting.{HasForm, LastFits, IsBegun, DraftFits, IsDone}
use Rattle.rule_parser.proofs.DraftFits.{named_fits, head_fits, condition_ok, action_ok, priority_ok, ConditionMove, ActionMove, PriorityMove}
use Rattle.rule_parser.proofs.Parts.{then_holds, checked_holds, has_room}
use Rattle.rule_parser.proofs.SidesFit.{IsKeyOf, key_fits, IsConditionOf, condition_fits, IsActionOf, action_fits}

-- a name that can be declared finds room
name_room : (a : Checked (Unit {0})) (b : Checked (Unit {0})) (c : Checked (Unit {0})) (P : Type 0)
    → IfOk c (λ nothing. P) → IfOk (both a (both b c)) (λ nothing. P)
unfolding both
name_room (Ok a) (Ok b) (Ok c) P h = h
name_room (Ok a) (Ok b) (Err f) P h = tt
name_room (Ok a) (Err f) (Ok c) P h = tt
name_room (Ok a) (Err f) (Err g) P h = tt
name_room (Err f) (Ok b) (Ok c) P h = tt
name_room (Err f) (Ok b) (Err g) P h = tt
name_room (Err f) (Err g) (Ok c) P h = tt
name_room (Err f) (Err g) (Err e) P h = tt

room_for_name : (names : List NameDef) (name : List ℕ)
    → IfOk (name_read names name) (λ nothing. length names < most_names)
unfolding name_read
room_for_name names name =
    name_room _ _ (room_for (codes "names") most_names (length names)) (length names < most_names)
    (has_room (codes "names") most_names (length names))

-- a formula fits behind the names
formula_fits : (names : List NameDef) (name text : List ℕ) (read : Result Expr FaultAt)
    → expr_in (declared_names names) text ≡ read
    → IfOk (formula_from name text read) (λ formula. (later : List NameDef) → FormulaFits (names ++ later) (length names) formula)
formula_fits names name text (Ok formula) e = λ later. formulas_read-fits names later text formula e
formula_fits names name text (Err fault) e = tt

expression_fits : (names : List NameDef) (name : List ℕ) (formula : List Item)
    → IfOk (formula_read names name formula) (λ formula. (later : List NameDef) → FormulaFits (names ++ later) (length names) formula)
unfolding formula_read
expression_fits names name formula =
    formula_fits names name (joined formula) (expr_in (declared_names names) (joined formula)) refl

-- ---- statements, whose stage allows them
abbrev Fits : Context → Stage → Draft → Type 0
Fits context next draft = DraftFits context.objects (at_stage draft next)

variable_ok : (context : Context) (draft : Draft) (name : List ℕ) (key : KeyText)
    → DraftFits context.objects draft → is_complete draft.stage ≡ true
    → IfOk (variable_read context draft name key) (Fits context Outside)
variable_ok context draft name key h e =
    checked_holds (IsKeyOf context.objects) (λ nothing. length draft.names < most_names) (Fits context Outside)
    (λ key. with_name draft name (Variable key)) (name_read draft.names name) (key_read context.objects key)
    (room_for_name draft.names name) (key_fits context.objects key)
    (λ nothing few found k. named_fits context.objects draft name (Variable found) h e few (λ later. k.0) k.1)

expression_ok : (context : Context) (draft : Draft) (name : List ℕ) (formula : List Item)
    → DraftFits context.objects draft → is_complete draft.stage ≡ true
    → IfOk (expression_read draft name (formula_read draft.names name formula)) (Fits context Outside)
expression_ok context draft name formula h e =
    checked_holds (λ found. (later : List NameDef) → FormulaFits (draft.names ++ later) (length draft.names) found)
    (λ nothing. length draft.names < most_names) (Fits context Outside)
    (λ found. with_name draft name (Formula found)) (name_read draft.names name) (formula_read draft.names name formula)
    (room_for_name draft.names name) (expression_fits draft.names name formula)
    (λ nothing few found k. named_fits context.objects draft name (Formula found) h e few
    (λ later. k (record { name = name; stands_for = Formula found } ∷ later)) tt)

head_ok : (context : Context) (draft : Draft) (id : List ℕ)
    → DraftFits context.objects draft → is_complete draft.stage ≡ true
    → IfOk (head_read draft id) (Fits context Headed)
head_ok context draft id h e =
    then_holds (λ nothing. length (draft_rules draft) < most_rules) (Fits context Headed) (λ room. with_head draft id)
    (room_for (codes "rules") most_rules (length (draft_rules draft)))
    (has_room (codes "rules") most_rules (length (draft_rules draft)))
    (λ nothing few. head_fits context.objects draft id h e few)

few_conditions : (last : Option Rule) → condition_count last < most_conditions
    → IfSome last (λ rule. length rule.conditions < most_conditions)
few_conditions None h = tt
few_conditions (Some rule) h = h

first_joined : (condition : Condition) → IsTrue condition.joined_by_and ⊎ (true ≡ false) → ConditionMove condition Headed
first_joined condition (inl joined) = joined
first_joined condition (inr e) = cc

-- the stage behind a condition
condition_move : (word : ConditionWord) (stage next : Stage) (last : Option Rule)
    → next_stage stage (condition_clause word) ≡ Some next → IsBegun stage last
    → (InPremise ≡ next) × IsSome last
    × ((condition : Condition) → IsTrue (condition.joined_by_and) ⊎ (begins_group word ≡ false) → ConditionMove condition stage)
unfolding next_stage
condition_move condition_words.If Outside next last e b = cc
condition_move condition_words.If Headed next last e b = (cc, b, first_joined)
condition_move condition_words.If InPremise next last e b = cc
condition_move condition_words.If InThen next last e b = cc
condition_move condition_words.If InElse next last e b = cc
condition_move condition_words.If Ranked next last e b = cc
condition_move condition_words.And Outside next last e b = cc
condition_move condition_words.And Headed next last e b = cc
condition_move condition_words.And InPremise next last e b = (cc, b, λ condition joined. tt)
condition_move condition_words.And InThen next last e b = cc
condition_move condition_words.And InElse next last e b = cc
condition_move condition_words.And Ranked next last e b = cc
condition_move condition_words.Or Outside next last e b = cc
condition_move condition_words.Or Headed next last e b = cc
condition_move condition_words.Or InPremise next last e b = (cc, b, λ condition joined. tt)
condition_move condition_words.Or InThen next last e b = cc
condition_move condition_words.Or InElse next last e b = cc
condition_move condition_words.Or Ranked next last e b = cc

joined_first : (word : ConditionWord) (condition : Condition) → condition.joined_by_and ≡ begins_group word
    → IsTrue condition.joined_by_and ⊎ (begins_group word ≡ false)
joined_first condition_words.If condition e = inl e
joined_first condition_words.And condition e = inl e
joined_first condition_words.Or condition e = inr refl

condition_added_ok : (context : Context) (draft : Draft) (next : Stage) (written : ConditionText)
    → next_stage draft.stage (condition_clause written.word) ≡ Some next
    → DraftFits context.objects draft
    → IfOk (condition_added draft (condition_read context.objects draft.names written)) (Fits context next)
condition_added_ok context draft next written e h =
    let move = condition_move written.word draft.stage next draft.last e h.begun in
    checked_holds (IsConditionOf context.objects draft.names written.word)
    (λ nothing. condition_count draft.last < most_conditions) (Fits context next) (with_condition draft)
    (room_for (codes "conditions") most_conditions (condition_count draft.last))
    (condition_read context.objects draft.names written)
    (has_room (codes "conditions") most_conditions (condition_count draft.last))
    (condition_fits context.objects draft.names written h.names h.names_held)
    (λ nothing few condition k. subst (λ after. Fits context after (with_condition draft condition)) move.0
    (condition_ok context.objects draft condition h move.1 (move.2 condition (joined_first written.word condition k.2))
    k.0 k.1 (few_conditions draft.last few)))

-- the stage behind an action
then_goes_on : (rule : Rule) → rule.else_actions ≡ [] → ActionMove (is_else action_words.And (Some rule)) InThen InThen
then_goes_on rule e = by_list rule.else_actions refl e
  where
    by_list : (others : List Action) → rule.else_actions ≡ others → others ≡ []
        → ActionMove (is_else action_words.And (Some rule)) InThen InThen
    by_list [] same e = rw same refl
    by_list (action ∷ more) same e = cc

else_goes_on : (rule : Rule) → 0 < length rule.else_actions → ActionMove (is_else action_words.And (Some rule)) InElse InElse
else_goes_on rule h = by_list rule.else_actions refl h
  where
    by_list : (others : List Action) → rule.else_actions ≡ others → 0 < length others
        → ActionMove (is_else action_words.And (Some rule)) InElse InElse
    by_list [] same h = absurd (omega arith)
    by_list (action ∷ more) same h = rw same refl

action_move : (word : ActionWord) (stage next : Stage) (rule : Rule) → HasForm stage rule
    → next_stage stage (action_clause word) ≡ Some next → ActionMove (is_else word (Some rule)) stage next
unfolding next_stage
action_move action_words.Then Outside next rule h e = cc
action_move action_words.Then Headed next rule h e = cc
action_move action_words.Then InPremise next rule h e = let same : InThen ≡ next = cc in subst (λ after. ActionMove false InPremise after) same refl
action_move action_words.Then InThen next rule h e = cc
action_move action_words.Then InElse next rule h e = cc
action_move action_words.Then Ranked next rule h e = cc
action_move action_words.And Outside next rule h e = cc
action_move action_words.And Headed next rule h e = cc
action_move action_words.And InPremise next rule h e = cc
action_move action_words.And InThen next rule h e = let same : InThen ≡ next = cc in subst (λ after. ActionMove (is_else action_words.And (Some rule)) InThen after) same (then_goes_on rule h.1)
action_move action_words.And InElse next rule h e = let same : InElse ≡ next = cc in subst (λ after. ActionMove (is_else action_words.And (Some rule)) InElse after) same (else_goes_on rule h.1)
action_move action_words.And Ranked next rule h e = cc
action_move action_words.Else Outside next rule h e = cc
action_move action_words.Else Headed next rule h e = cc
action_move action_words.Else InPremise next rule h e = cc
action_move action_words.Else InThen next rule h e = let same : InElse ≡ next = cc in subst (λ after. ActionMove true InThen after) same refl
action_move action_words.Else InElse next rule h e = cc
action_move action_words.Else Ranked next rule h e = cc

-- there is a last rule before an action
action_begun : (word : ActionWord) (stage next : Stage) (last : Option Rule)
    → next_stage stage (action_clause word) ≡ Some next → IsBegun stage last → IsSome last
unfolding next_stage
action_begun action_words.Then Outside next last e b = cc
action_begun action_words.Then Headed next last e b = b
action_begun action_words.Then InPremise next last e b = b
action_begun action_words.Then InThen next last e b = b
action_begun action_words.Then InElse next last e b = b
action_begun action_words.Then Ranked next last e b = b
action_begun action_words.And Outside next last e b = cc
action_begun action_words.And Headed next last e b = b
action_begun action_words.And InPremise next last e b = b
action_begun action_words.And InThen next last e b = b
action_begun action_words.And InElse next last e b = b
action_begun action_words.And Ranked next last e b = b
action_begun action_words.Else Outside next last e b = cc
action_begun action_words.Else Headed next last e b = b
action_begun action_words.Else InPremise next last e b = b
action_begun action_words.Else InThen next last e b = b
action_begun action_words.Else InElse next last e b = b
action_begun action_words.Else Ranked next last e b = b

move_of : (objects : Objects) (names : List NameDef) (word : ActionWord) (stage next : Stage) (last : Option Rule)
    → next_stage stage (action_clause word) ≡ Some next → IsSome last
    → IfSome last (LastFits objects names stage) → ActionMove (is_else word last) stage next
move_of objects names word stage next None e b h = cc
move_of objects names word stage next (Some rule) e b h = action_move word stage next rule h.form e

action_added_ok : (context : Context) (draft : Draft) (next : Stage) (written : ActionText)
    → next_stage draft.stage (action_clause written.word) ≡ Some next
    → DraftFits context.objects draft
    → IfOk (action_added draft (is_else written.word draft.last) (action_read context.objects context.tables draft.pids written)) (Fits context next)
action_added_ok context draft next written e h =
    let begun = action_begun written.word draft.stage next draft.last e h.begun in
    checked_holds (IsActionOf context.objects draft.pids)
    (λ nothing. action_count (is_else written.word draft.last) draft.last < most_actions) (Fits context next)
    (with_action (is_else written.word draft.last) draft)
    (room_for (codes "actions") most_actions (action_count (is_else written.word draft.last) draft.last))
    (action_read context.objects context.tables draft.pids written)
    (has_room (codes "actions") most_actions (action_count (is_else written.word draft.last) draft.last))
    (action_fits context.objects context.tables draft.pids written)
    (λ nothing few action k. action_ok context.objects draft next (is_else written.word draft.last) action h begun
    (move_of context.objects draft.names written.word draft.stage next draft.last e begun h.last) k few)

-- the stage behind a priority
priority_move : (stage next : Stage) (last : Option Rule) → next_stage stage clauses.Priority ≡ Some next
    → IsBegun stage last → (Ranked ≡ next) × IsSome last × PriorityMove stage
unfolding next_stage
priority_move Outside next last e b = cc
priority_move Headed next last e b = cc
priority_move InPremise next last e b = cc
priority_move InThen next last e b = (cc, b, tt)
priority_move InElse next last e b = (cc, b, tt)
priority_move Ranked next last e b = cc

anything : {A : Type 0} (read : Checked A) → IfOk read (λ value. ⊤)
anything (Ok value) = tt
anything (Err fault) = tt

priority_read_ok : (context : Context) (draft : Draft) (next : Stage) (number : Item)
    → next_stage draft.stage clauses.Priority ≡ Some next → DraftFits context.objects draft
    → IfOk (priority_read draft number) (Fits context next)
priority_read_ok context draft next number e h =
    let move = priority_move draft.stage next draft.last e h.begun in
    then_holds (λ priority. ⊤) (Fits context next) (with_priority draft) (value_read values.Number number)
    (anything (value_read values.Number number))
    (λ priority k. subst (λ after. Fits context after (with_priority draft priority)) move.0
    (priority_ok context.objects draft priority h move.1 move.2))

-- the stage behind a declaration and behind a head
declaration_move : (stage next : Stage) → next_stage stage clauses.Declaration ≡ Some next
    → (is_complete stage ≡ true) × (Outside ≡ next)
unfolding next_stage
declaration_move Outside next e = (refl, cc)
declaration_move Headed next e = cc
declaration_move InPremise next e = cc
declaration_move InThen next e = (refl, cc)
declaration_move InElse next e = (refl, cc)
declaration_move Ranked next e = (refl, cc)

head_move : (stage next : Stage) → next_stage stage clauses.Head ≡ Some next
    → (is_complete stage ≡ true) × (Headed ≡ next)
unfolding next_stage
head_move Outside next e = (refl, cc)
head_move Headed next e = cc
head_move InPremise next e = cc
head_move InThen next e = (refl, cc)
head_move InElse next e = (refl, cc)
head_move Ranked next e = (refl, cc)

at_next : (context : Context) (stage next : Stage) (read : Checked Draft) → stage ≡ next
    → IfOk read (Fits context stage) → IfOk read (Fits context next)
at_next context stage next read e h = subst (λ after. IfOk read (Fits context after)) e h

statement_ok : (context : Context) (draft : Draft) (next : Stage) (statement : Statement)
    → next_stage draft.stage (clause_of statement) ≡ Some next → DraftFits context.objects draft
    → IfOk (statement_read context draft statement) (Fits context next)
unfolding statement_read
statement_ok context draft next (statements.Variable name key) e h =
    let move = declaration_move draft.stage next e in
    at_next context Outside next _ move.1 (variable_ok context draft name key h move.0)
statement_ok context draft next (statements.Expression name formula) e h =
    let move = declaration_move draft.stage next e in
    at_next context Outside next _ move.1 (expression_ok context draft name formula h move.0)
statement_ok context draft next (statements.Head id) e h =
    let move = head_move draft.stage next e in
    at_next context Headed next _ move.1 (head_ok context draft id h move.0)
statement_ok context draft next (statements.Condition written) e h = condition_added_ok context draft next written e h
statement_ok context draft next (statements.Action written) e h = action_added_ok context draft next written e h
statement_ok context draft next (statements.Priority number) e h = priority_read_ok context draft next number e h

-- ---- lines
-- a draft that fits, and is complete where it is the last
abbrev Ends : Context → Bool → Draft → Type 0
Ends context is_last draft = DraftFits context.objects draft × (is_last ≡ true → is_complete draft.stage ≡ true)

order_is : (is_last complete : Bool) (stage next : Stage) (token : List ℕ) → is_complete stage ≡ complete
    → cond (is_last && not complete) (Err (fault_of ClauseOrder token)) (Ok stage) ≡ Ok next
    → (stage ≡ next) × (is_last ≡ true → is_complete next ≡ true)
order_is true true stage next token c e = let same : stage ≡ next = cc in (same, λ l. subst (λ s. is_complete s ≡ true) same c)
order_is true false stage next token c e = cc
order_is false true stage next token c e = (cc, λ l. cc)
order_is false false stage next token c e = (cc, λ l. cc)

order_by : (found : Option Stage) (is_last : Bool) (token : List ℕ) (next : Stage)
    → order_from found is_last token ≡ Ok next
    → (found ≡ Some next) × (is_last ≡ true → is_complete next ≡ true)
order_by None is_last token next e = cc
order_by (Some stage) is_last token next e =
    let h = order_is is_last (is_complete stage) stage next token refl e in (ap Some h.0, h.1)

finished_ok : (context : Context) (is_last : Bool) (order : Checked Stage) (read : Checked Draft)
    → ((next : Stage) → order ≡ Ok next → IfOk read (λ draft. Ends context is_last (at_stage draft next)))
    → IfOk (finished order read) (Ends context is_last)
unfolding both
finished_ok context is_last (Ok next) (Ok draft) h = h next refl
finished_ok context is_last (Ok next) (Err fault) h = tt
finished_ok context is_last (Err fault) (Ok draft) h = tt
finished_ok context is_last (Err fault) (Err other) h = tt

ends_at : (context : Context) (is_last : Bool) (next : Stage) (read : Checked Draft)
    → (is_last ≡ true → is_complete next ≡ true) → IfOk read (Fits context next)
    → IfOk read (λ draft. Ends context is_last (at_stage draft next))
ends_at context is_last next (Ok draft) c h = (h, c)
ends_at context is_last next (Err fault) c h = tt

after_ok : (context : Context) (draft : Draft) (is_last : Bool) (token : List ℕ) (statement : Option Statement)
    → DraftFits context.objects draft
    → IfOk (draft_after context draft is_last token statement) (Ends context is_last)
after_ok context draft is_last token None h = tt
after_ok context draft is_last token (Some statement) h =
    finished_ok context is_last (order_read draft.stage statement is_last token) (statement_read context draft statement)
    (λ next e.
    let order = order_by (next_stage draft.stage (clause_of statement)) is_last token next e in
    ends_at context is_last next (statement_read context draft statement) order.1
    (statement_ok context draft next statement order.0 h))

line_ok : (context : Context) (draft : Draft) (is_last : Bool) (line : List ℕ) → DraftFits context.objects draft
    → IfOk (line_read context draft is_last line) (Ends context is_last)
unfolding line_read
line_ok context draft is_last line h =
    after_ok context draft is_last (first_item line) (statement_of draft.stage (items line)) h

goes_on : (context : Context) (number : ℕ) (is_last : Bool) (read : Checked Draft) (later : Draft → Result Draft Refusal)
    → IfOk read (Ends context is_last)
    → ((draft : Draft) → Ends context is_last draft → IfOk (later draft) (IsDone context.objects))
    → IfOk (after_line number read later) (IsDone context.objects)
goes_on context number is_last (Ok draft) later h k = k draft h
goes_on context number is_last (Err fault) later h k = tt

from_ok : (context : Context) (draft : Draft) (lines : List SourceLine) → Ends context (is_end lines) draft
    → IfOk (controls_from context draft lines) (IsDone context.objects)
from_ok context draft [] h = (h.0, h.1 refl)
from_ok context draft (line ∷ later) h =
    goes_on context line.number (is_end later) (line_read context draft (is_end later) line.bytes)
    (λ next. controls_from context next later)
    (line_ok context draft (is_end later) line.bytes h.0)
    (λ next k. from_ok context next later k)

none_fits : (objects : Objects) → DraftFits objects no_draft
unfolding pid_numbers
none_fits objects = record {
  closed = All-nil (RuleFits []);
  closed_held = All-nil (HoldsRule objects);
  last = tt;
  begun = tt;
  names = λ later at named e. cc;
  names_held = All-nil (λ named. HoldsKind objects named.stands_for);
  pids = refl;
  few_rules = omega arith;
  few_names = omega arith;
}

-- what is read of all control lines fits
pub controls_fit : (context : Context) (lines : List SourceLine)
    → IfOk (controls_from context no_draft lines) (IsDone context.objects)
controls_fit context lines = from_ok context no_draft lines (none_fits context.objects, λ e. refl)
