-- The table that an action's line names is the one that its last three items name.
use Rattle.std.proofs.Common.{◌≡◌, ℕ, ◌<◌, ◌+◌, ◌≤◌, suc, Bool, true, false, cond, List, [], ◌∷◌, length, Option, None, Some, refl, subst, ap, arith}
use Rattle.std.specs.Prelude.{IfSome, ⊤, codes, option_map}
use Rattle.std.specs.Option.{option_or}
use Rattle.std.specs.Char.{to_ascii_lowercase}
use Rattle.std.specs.Str.{bytes_eq, str_to_ascii_lowercase}
use Rattle.std.proofs.lemmas.Slice.Eq.{bytes_eq-Decides}
use Rattle.std.proofs.lemmas.Str.Ascii.{lowercase_is}
use Rattle.exact_fraction.specs.declared.relation.Relation.TheVariants.{Eq}
use Rattle.key_words.specs.Words.{is_word, object_word, relation_text}
use Rattle.num_text.specs.Fields.{◌>>=◌}
use Rattle.rule_types.specs.Finding.{Found, Nothing, At, Several, places_from, only, else_found, same_ignoring_case, finds}
use Rattle.control_lines.specs.Clauses.{is_premise}
use Rattle.control_lines.specs.Statements.{Item, Statement, Variable, Expression, Head, Condition, Action, Priority, ObjectAttribute, PidText, ValueText, Plain, Curve, Series, Pid}
use Rattle.control_lines.specs.Statements.{past_equals, last_value, key_at, side_at, relation_at, single, target_of, value_of, action_by, condition_by, and_by, variable_by, expression_by, declared_formula, statement_by, statement_of}
use Rattle.control_lines.specs.Statements.{variable_text, expression_text, rule_text, if_text, or_text, and_text, then_text, else_text, priority_text, curve_text, series_text, pid_text}
use Rattle.control_lines.specs.declared.clause.Stage.{Stage}
use Rattle.control_lines.specs.declared.statement.ActionWord.{ActionWord}
use Rattle.control_lines.specs.declared.statement.ActionWord.TheVariants as action_words
use Rattle.control_lines.specs.declared.statement.ConditionWord.{ConditionWord}
use Rattle.control_lines.specs.declared.statement.ConditionWord.TheVariants as condition_words
use Rattle.curves_series.specs.Names.{curve_word, series_word, name_behind, name_used}

-- ---- the place of a name that is found
abbrev AllBelow : ℕ → List ℕ → Type 0
AllBelow n [] = ⊤
AllBelow n (place ∷ places) = (place < n) × AllBelow n places

abbrev IsBelow : ℕ → Found → Type 0
IsBelow n Nothing = ⊤
IsBelow n (At place) = place < n
IsBelow n Several = ⊤

more_below : (b : Bool) (n place : ℕ) (places : List ℕ) → place < n → AllBelow n places
    → AllBelow n (cond b (place ∷ places) places)
more_below true n place places lt h = (lt, h)
more_below false n place places lt h = h

places_below : (passes : List ℕ → Bool) (n start : ℕ) (names : List (List ℕ)) → start + length names ≤ n
    → AllBelow n (places_from start passes names)
places_below passes n start [] le = tt
places_below passes n start (name ∷ names) le =
    more_below (passes name) n start (places_from (suc start) passes names) (omega (arith, le))
    (places_below passes n (suc start) names (omega (arith, le)))

only_below : (n : ℕ) (places : List ℕ) → AllBelow n places → IsBelow n (only places)
only_below n [] h = tt
only_below n (place ∷ []) h = h.0
only_below n (place ∷ other ∷ more) h = tt

else_below : (n : ℕ) (one other : Found) → IsBelow n one → IsBelow n other → IsBelow n (else_found one other)
else_below n Nothing other h k = k
else_below n (At place) other h k = h
else_below n Several other h k = tt

pub found_below : (names : List (List ℕ)) (name : List ℕ) → IsBelow (length names) (finds names name)
found_below names name =
    else_below (length names) (only (places_from 0 (bytes_eq name) names)) (only (places_from 0 (same_ignoring_case name) names))
    (only_below (length names) (places_from 0 (bytes_eq name) names) (places_below (bytes_eq name) (length names) 0 names (omega arith)))
    (only_below (length names) (places_from 0 (same_ignoring_case name) names) (places_below (same_ignoring_case name) (length names) 0 names (omega arith)))

pub place_below : (names : List (List ℕ)) (name : List ℕ) (place : ℕ) → finds names name ≡ At place
    → place < length names
place_below names name place e = subst (IsBelow (length names)) e (found_below names name)

-- ---- the sign = and the words of tables
sign_byte : (byte : ℕ) → to_ascii_lowercase byte ≡ 61 → byte ≡ 61
sign_byte byte e = grind (arith, lowercase_is byte, e)

sign_is : (item : Item) → str_to_ascii_lowercase item ≡ 61 ∷ [] → item ≡ 61 ∷ []
sign_is [] e = cc
sign_is (byte ∷ []) e = ap (λ b. b ∷ []) (sign_byte byte cc)
sign_is (byte ∷ next ∷ later) e = cc

equals_is : (item : Item) → is_word item (relation_text Eq) ≡ true → bytes_eq item (codes "=") ≡ true
equals_is item e =
    (bytes_eq-Decides item (61 ∷ [])).1
    (sign_is item ((bytes_eq-Decides (str_to_ascii_lowercase item) (61 ∷ [])).0 e))

behind_is : (word equals item name : Item) → bytes_eq equals (codes "=") ≡ true → is_word item word ≡ true
    → name_behind word (equals ∷ item ∷ name ∷ []) ≡ Some name
behind_is word equals item name e f = rw (e, f) refl

-- ---- what the items of a line name
-- the last three items of a line name the table of a value
abbrev pub ValueNames : List Item → ValueText → Type 0
ValueNames found (Plain item) = ⊤
ValueNames found (Curve table) = name_used curve_word found ≡ Some table.name
ValueNames found (Series table) = name_used series_word found ≡ Some table.name
ValueNames found (Pid pid) = ⊤

abbrev pub StatementNames : List Item → Statement → Type 0
StatementNames found (Variable name key) = ⊤
StatementNames found (Expression name formula) = ⊤
StatementNames found (Head name) = ⊤
StatementNames found (Condition condition) = ⊤
StatementNames found (Action written) = ValueNames found written.value
StatementNames found (Priority number) = ⊤

-- ---- values that there may be
either_way : {A : Type 0} (P : A → Type 0) (b : Bool) (one other : Option A) → IfSome one P → IfSome other P
    → IfSome (cond b one other) P
either_way P true one other h k = h
either_way P false one other h k = k

or_other : {A : Type 0} (P : A → Type 0) (one other : Option A) → IfSome one P → IfSome other P
    → IfSome (option_or one other) P
or_other P (Some x) other h k = h
or_other P None other h k = k

after_step : {A B : Type 0} (P : B → Type 0) (found : Option A) (next : A → Option B)
    → ((x : A) → IfSome (next x) P) → IfSome (found >>= next) P
after_step P (Some x) next h = h x
after_step P None next h = tt

made_of : {A B : Type 0} (P : B → Type 0) (f : A → B) (found : Option A)
    → ((x : A) → P (f x)) → IfSome (option_map f found) P
made_of P f (Some x) h = h x
made_of P f None h = tt

-- ---- actions
table_names : (first object name attribute equals item table : Item) (is_curve is_series : Bool)
    → bytes_eq equals (codes "=") ≡ true → is_word item curve_text ≡ is_curve → is_word item series_text ≡ is_series
    → IfSome (cond is_curve (Some (Curve (record { word = item; name = table }))) (cond is_series (Some (Series (record { word = item; name = table }))) None))
    (ValueNames (first ∷ object ∷ name ∷ attribute ∷ equals ∷ item ∷ table ∷ []))
unfolding name_used
table_names first object name attribute equals item table true is_series e f g =
    behind_is curve_word equals item table e f
table_names first object name attribute equals item table false true e f g =
    behind_is series_word equals item table e g
table_names first object name attribute equals item table false false e f g = tt

pid_names : (found : List Item) (pid : PidText) (b : Bool)
    → IfSome (cond b (Some (Pid pid)) None) (ValueNames found)
pid_names found pid true = tt
pid_names found pid false = tt

value_names : (first object name attribute equals : Item) (behind : List Item) → bytes_eq equals (codes "=") ≡ true
    → IfSome (value_of behind) (ValueNames (first ∷ object ∷ name ∷ attribute ∷ equals ∷ behind))
unfolding value_of
value_names first object name attribute equals [] e = tt
value_names first object name attribute equals (item ∷ []) e = tt
value_names first object name attribute equals (item ∷ table ∷ []) e =
    table_names first object name attribute equals item table (is_word item curve_text) (is_word item series_text) e refl refl
value_names first object name attribute equals (a ∷ b ∷ c ∷ []) e = tt
value_names first object name attribute equals (a ∷ b ∷ c ∷ d ∷ []) e =
    pid_names (first ∷ object ∷ name ∷ attribute ∷ equals ∷ a ∷ b ∷ c ∷ d ∷ [])
    (record { word = a; gain = b; integral = c; derivative = d }) (is_word a pid_text)
value_names first object name attribute equals (a ∷ b ∷ c ∷ d ∷ f ∷ later) e = tt

-- the action of a value
abbrev action_with : ActionWord → ObjectAttribute → ValueText → Option Statement
action_with word target value = Some (Action (record { word = word; target = target; value = value }))

by_value : (found : List Item) (word : ActionWord) (target : ObjectAttribute) (value : Option ValueText)
    → IfSome value (ValueNames found)
    → IfSome (value >>= action_with word target) (StatementNames found)
by_value found word target None h = tt
by_value found word target (Some value) h = h

by_equals : (first object name attribute equals : Item) (behind : List Item) (word : ActionWord)
    (target : ObjectAttribute) (b : Bool) → is_word equals (relation_text Eq) ≡ b
    → IfSome ((cond b (Some behind) None) >>= λ behind. value_of behind >>= action_with word target)
    (StatementNames (first ∷ object ∷ name ∷ attribute ∷ equals ∷ behind))
by_equals first object name attribute equals behind word target true e =
    by_value (first ∷ object ∷ name ∷ attribute ∷ equals ∷ behind) word target (value_of behind)
    (value_names first object name attribute equals behind (equals_is equals e))
by_equals first object name attribute equals behind word target false e = tt

by_target : (first object name attribute : Item) (later : List Item) (word : ActionWord) (target : Option ObjectAttribute)
    → IfSome (target >>= λ target. past_equals later >>= λ behind. value_of behind >>= action_with word target)
    (StatementNames (first ∷ object ∷ name ∷ attribute ∷ later))
by_target first object name attribute later word None = tt
by_target first object name attribute [] word (Some target) = tt
by_target first object name attribute (equals ∷ behind) word (Some target) =
    by_equals first object name attribute equals behind word target (is_word equals (relation_text Eq)) refl

action_names : (word : ActionWord) (first : Item) (later : List Item)
    → IfSome (action_by word later) (StatementNames (first ∷ later))
unfolding action_by
action_names word first [] = tt
action_names word first (a ∷ []) = tt
action_names word first (a ∷ b ∷ []) = tt
action_names word first (object ∷ name ∷ attribute ∷ later) =
    by_target first object name attribute later word (target_of (object_word object) name attribute)

-- ---- other statements
condition_names : (word : ConditionWord) (found later : List Item)
    → IfSome (condition_by word later) (StatementNames found)
unfolding condition_by
condition_names word found later =
    after_step (StatementNames found) (side_at later) _ (λ left.
    after_step (StatementNames found) (relation_at left.rest) _ (λ relation.
    after_step (StatementNames found) (last_value (side_at relation.rest)) _ (λ other. tt)))

variable_names : (found later : List Item) → IfSome (variable_by later) (StatementNames found)
unfolding variable_by
variable_names found [] = tt
variable_names found (name ∷ later) =
    after_step (StatementNames found) (past_equals later) _ (λ behind.
    after_step (StatementNames found) (last_value (key_at behind)) _ (λ key. tt))

formula_names : (found : List Item) (name : Item) (formula : List Item)
    → IfSome (declared_formula name formula) (StatementNames found)
formula_names found name [] = tt
formula_names found name (item ∷ later) = tt

expression_names : (found later : List Item) → IfSome (expression_by later) (StatementNames found)
unfolding expression_by
expression_names found [] = tt
expression_names found (name ∷ later) =
    after_step (StatementNames found) (past_equals later) _ (formula_names found name)

and_names : (premise : Bool) (first : Item) (later : List Item)
    → IfSome (and_by premise later) (StatementNames (first ∷ later))
and_names true first later = condition_names condition_words.And (first ∷ later) later
and_names false first later =
    or_other (StatementNames (first ∷ later)) (action_by action_words.And later)
    (condition_by condition_words.And later) (action_names action_words.And first later)
    (condition_names condition_words.And (first ∷ later) later)

line_names : (stage : Stage) (first : Item) (later : List Item)
    → IfSome (statement_by stage first later) (StatementNames (first ∷ later))
unfolding statement_by
line_names stage first later =
    let P = StatementNames (first ∷ later) in
    either_way P (is_word first variable_text) _ _ (variable_names (first ∷ later) later)
    (either_way P (is_word first expression_text) _ _ (expression_names (first ∷ later) later)
    (either_way P (is_word first rule_text) _ _ (made_of P Head (single later) (λ name. tt))
    (either_way P (is_word first if_text) _ _ (condition_names condition_words.If (first ∷ later) later)
    (either_way P (is_word first or_text) _ _ (condition_names condition_words.Or (first ∷ later) later)
    (either_way P (is_word first and_text) _ _ (and_names (is_premise stage) first later)
    (either_way P (is_word first then_text) _ _ (action_names action_words.Then first later)
    (either_way P (is_word first else_text) _ _ (action_names action_words.Else first later)
    (either_way P (is_word first priority_text) _ _ (made_of P Priority (single later) (λ number. tt)) tt))))))))

-- the last three items of an action's line name its table
pub statement_names : (stage : Stage) (found : List Item) → IfSome (statement_of stage found) (StatementNames found)
unfolding statement_of
statement_names stage [] = tt
statement_names stage (first ∷ later) = line_names stage first later
