-- The forms of control lines: what the items of a line say, as written (the forms are those of the
-- SWMM 5.2 manual, [CONTROLS]).
use Rattle.std.specs.Prelude.{ℕ, Bool, true, false, ◌||◌, if◌then◌else◌, List, [], ◌∷◌, codes}
use Rattle.std.specs.Prelude.{Option, None, Some, is_some}
use Rattle.std.specs.Option.{option_or, option_map}
use Rattle.exact_fraction.specs.declared.relation.Relation.{Relation}
use Rattle.exact_fraction.specs.declared.relation.Relation.TheVariants.{Eq}
use Rattle.num_text.specs.Fields.{◌>>=◌}
use Rattle.rule_types.specs.declared.object.ObjectWord.{ObjectWord}
use Rattle.rule_types.specs.declared.object.ObjectWord.TheVariants.{Gage, Node, Link}
use Rattle.key_words.specs.Words.{is_word, object_word, simulation_text}
use Rattle.key_words.specs.Words.{relation_of, relation_text}
use Rattle.control_lines.specs.declared.clause.Clause.{Clause}
use Rattle.control_lines.specs.declared.clause.Clause.TheVariants as clauses
use Rattle.control_lines.specs.declared.clause.Stage.{Stage}
use Rattle.control_lines.specs.declared.statement.ConditionWord.{ConditionWord}
use Rattle.control_lines.specs.declared.statement.ConditionWord.TheVariants as condition_words
use Rattle.control_lines.specs.declared.statement.ActionWord.{ActionWord}
use Rattle.control_lines.specs.declared.statement.ActionWord.TheVariants as action_words
use Rattle.control_lines.specs.Clauses.{is_premise}

-- an item of a line
abbrev pub Item : Type 0
Item = List ℕ

-- ---- what is written
-- an attribute of an object, with the word and the name of the object
pub record ObjectAttribute : Type 0 where
  pub word : ObjectWord
  pub name : Item
  pub attribute : Item

-- a key: an attribute of an object, or one of SIMULATION
pub data KeyText : Type 0 where
  Object : ObjectAttribute → KeyText
  Clock : Item → KeyText

-- a side of a condition: a key, or one other item
pub data SideText : Type 0 where
  Key : KeyText → SideText
  Single : Item → SideText

-- a curve or a series, behind its word as it is written
pub record TableText : Type 0 where
  pub word : Item
  pub name : Item

-- the three numbers of a PID controller, behind their word as it is written
pub record PidText : Type 0 where
  pub word : Item
  pub gain : Item
  pub integral : Item
  pub derivative : Item

-- the value of an action: one item, a curve, a series, or a PID controller
pub data ValueText : Type 0 where
  Plain : Item → ValueText
  Curve : TableText → ValueText
  Series : TableText → ValueText
  Pid : PidText → ValueText

-- a condition with the word that it begins with
pub record ConditionText : Type 0 where
  pub word : ConditionWord
  pub left : SideText
  pub relation : Relation
  pub right : SideText

-- an action with the word that it begins with: what it sets, and to which value
pub record ActionText : Type 0 where
  pub word : ActionWord
  pub target : ObjectAttribute
  pub value : ValueText

-- a control line
pub data Statement : Type 0 where
  Variable : Item → KeyText → Statement
  Expression : Item → List Item → Statement
  Head : Item → Statement
  Condition : ConditionText → Statement
  Action : ActionText → Statement
  Priority : Item → Statement

-- ---- parts of lines
-- a part of a line, and the items behind it
pub record Cut (A : Type 0) : Type 0 where
  pub value : A
  pub rest : List Item

abbrev pub cut_of : {A : Type 0} → A → List Item → Cut A
cut_of value rest = record { value = value; rest = rest }

abbrev pub cut_with : {A B : Type 0} → (A → B) → Cut A → Cut B
cut_with f cut = cut_of (f cut.value) cut.rest

-- no items are left
abbrev pub no_items : List Item → Bool
no_items [] = true
no_items (item ∷ later) = false

-- the value of a part, where it is the line's last
abbrev pub last_value : {A : Type 0} → Option (Cut A) → Option A
last_value None = None
last_value (Some cut) = if no_items cut.rest then Some cut.value else None

-- the key of an object, behind the object's word: name and attribute
abbrev pub object_key : ObjectWord → List Item → Option (Cut KeyText)
object_key word (name ∷ attribute ∷ rest) =
    Some (cut_of (Object (record { word = word; name = name; attribute = attribute })) rest)
object_key word items = None

-- a key of SIMULATION, behind this word: the attribute
abbrev pub clock_key : List Item → Option (Cut KeyText)
clock_key (attribute ∷ rest) = Some (cut_of (Clock attribute) rest)
clock_key [] = None

-- the key that begins with an item, which is this word of an object or else SIMULATION, and has
-- `later` behind it
abbrev pub key_from : Option ObjectWord → Item → List Item → Option (Cut KeyText)
key_from (Some word) item later = object_key word later
key_from None item later = if is_word item simulation_text then clock_key later else None

-- the key that a part of a line begins with
unfoldable pub key_at : List Item → Option (Cut KeyText)
key_at [] = None
key_at (item ∷ later) = key_from (object_word item) item later

-- whether an item begins a key: it is the word of an object or SIMULATION
abbrev pub begins_key : Item → Bool
begins_key item = is_some (object_word item) || is_word item simulation_text

-- the side that a part of a line begins with
unfoldable pub side_at : List Item → Option (Cut SideText)
side_at [] = None
side_at (item ∷ later) =
    if begins_key item then option_map (cut_with Key) (key_at (item ∷ later))
    else Some (cut_of (Single item) later)

-- the relation that a part of a line begins with
abbrev pub relation_at : List Item → Option (Cut Relation)
relation_at [] = None
relation_at (item ∷ later) = option_map (λ relation. cut_of relation later) (relation_of item)

-- what is behind the sign `=`
abbrev pub past_equals : List Item → Option (List Item)
past_equals [] = None
past_equals (item ∷ later) = if is_word item (relation_text Eq) then Some later else None

-- ---- the words of control lines
abbrev pub variable_text : Item
variable_text = codes "VARIABLE"

abbrev pub expression_text : Item
expression_text = codes "EXPRESSION"

abbrev pub rule_text : Item
rule_text = codes "RULE"

abbrev pub if_text : Item
if_text = codes "IF"

abbrev pub and_text : Item
and_text = codes "AND"

abbrev pub or_text : Item
or_text = codes "OR"

abbrev pub then_text : Item
then_text = codes "THEN"

abbrev pub else_text : Item
else_text = codes "ELSE"

abbrev pub priority_text : Item
priority_text = codes "PRIORITY"

abbrev pub curve_text : Item
curve_text = codes "CURVE"

abbrev pub series_text : Item
series_text = codes "TIMESERIES"

abbrev pub pid_text : Item
pid_text = codes "PID"

-- ---- lines, behind their first word
-- `name = KEY`
abbrev pub declared_key : Item → List Item → Option Statement
declared_key name later = do
  behind ← past_equals later
  key ← last_value (key_at behind)
  Some (Variable name key)

unfoldable pub variable_by : List Item → Option Statement
variable_by [] = None
variable_by (name ∷ later) = declared_key name later

-- `name =` and at least one item
abbrev pub declared_formula : Item → List Item → Option Statement
declared_formula name [] = None
declared_formula name (item ∷ later) = Some (Expression name (item ∷ later))

unfoldable pub expression_by : List Item → Option Statement
expression_by [] = None
expression_by (name ∷ later) = past_equals later >>= λ formula. declared_formula name formula

-- one item
abbrev pub single : List Item → Option Item
single (item ∷ []) = Some item
single items = None

-- `SIDE REL RIGHT`
unfoldable pub condition_by : ConditionWord → List Item → Option Statement
condition_by word items = do
  left ← side_at items
  relation ← relation_at left.rest
  right ← last_value (side_at relation.rest)
  Some (Condition (record {
    word = word;
    left = left.value;
    relation = relation.value;
    right = right;
  }))

-- whether an action may begin with the word of an object: a link of a kind
abbrev pub is_acted_on : ObjectWord → Bool
is_acted_on Gage = false
is_acted_on Node = false
is_acted_on Link = false
is_acted_on word = true

-- a curve or a series, where the word is the one of curves or of series
abbrev pub table_value : TableText → Option ValueText
table_value table =
    if is_word table.word curve_text then Some (Curve table)
    else (if is_word table.word series_text then Some (Series table) else None)

-- a PID controller, where the word is the one of these
abbrev pub pid_value : PidText → Option ValueText
pid_value pid = if is_word pid.word pid_text then Some (Pid pid) else None

-- the value that all of these items are
unfoldable pub value_of : List Item → Option ValueText
value_of (item ∷ []) = Some (Plain item)
value_of (word ∷ name ∷ []) = table_value (record { word = word; name = name })
value_of (word ∷ gain ∷ integral ∷ derivative ∷ []) =
    pid_value (record { word = word; gain = gain; integral = integral; derivative = derivative })
value_of items = None

-- the target of an action
abbrev pub target_of : Option ObjectWord → Item → Item → Option ObjectAttribute
target_of None name attribute = None
target_of (Some word) name attribute =
    if is_acted_on word then Some (record { word = word; name = name; attribute = attribute })
    else None

-- `ACT id attribute =` and a value
unfoldable pub action_by : ActionWord → List Item → Option Statement
action_by word (object ∷ name ∷ attribute ∷ later) = do
  target ← target_of (object_word object) name attribute
  behind ← past_equals later
  value ← value_of behind
  Some (Action (record { word = word; target = target; value = value }))
action_by word items = None

-- AND: behind a condition it is a condition, and elsewhere an action, or else a condition
abbrev pub and_by : Bool → List Item → Option Statement
and_by true items = condition_by condition_words.And items
and_by false items =
    option_or (action_by action_words.And items) (condition_by condition_words.And items)

-- the line that begins with a word, and has `later` behind it
unfoldable pub statement_by : Stage → Item → List Item → Option Statement
statement_by stage word later =
    if is_word word variable_text then variable_by later
    else (if is_word word expression_text then expression_by later
    else (if is_word word rule_text then option_map Head (single later)
    else (if is_word word if_text then condition_by condition_words.If later
    else (if is_word word or_text then condition_by condition_words.Or later
    else (if is_word word and_text then and_by (is_premise stage) later
    else (if is_word word then_text then action_by action_words.Then later
    else (if is_word word else_text then action_by action_words.Else later
    else (if is_word word priority_text then option_map Priority (single later)
    else None))))))))

-- the statement that the items of a line have the form of, at a stage
unfoldable pub statement_of : Stage → List Item → Option Statement
statement_of stage [] = None
statement_of stage (word ∷ later) = statement_by stage word later

-- ---- clauses
abbrev pub condition_clause : ConditionWord → Clause
condition_clause condition_words.If = clauses.Premise
condition_clause condition_words.And = clauses.MorePremise
condition_clause condition_words.Or = clauses.MorePremise

abbrev pub action_clause : ActionWord → Clause
action_clause action_words.Then = clauses.Then
action_clause action_words.And = clauses.MoreActions
action_clause action_words.Else = clauses.Else

-- what a statement is in the order of clauses
abbrev pub clause_of : Statement → Clause
clause_of (Variable name key) = clauses.Declaration
clause_of (Expression name formula) = clauses.Declaration
clause_of (Head name) = clauses.Head
clause_of (Condition condition) = condition_clause condition.word
clause_of (Action action) = action_clause action.word
clause_of (Priority number) = clauses.Priority
