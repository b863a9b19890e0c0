-- What rules read and what they act on.
use Rattle.std.specs.Prelude.{ℕ, Bool, true, false, Option, Some, None, List, [], ◌∷◌, ◌++◌}
use Rattle.std.specs.Prelude.{slice_get, length}
use Rattle.std.specs.List.{flat_map}
use Rattle.rule_types.specs.declared.key.Key.{Key}
use Rattle.rule_types.specs.declared.condition.Condition.{Condition}
use Rattle.rule_types.specs.declared.condition.Side.{Side}
use Rattle.rule_types.specs.declared.condition.Side.TheVariants as side
use Rattle.rule_types.specs.declared.condition.Right.{Right}
use Rattle.rule_types.specs.declared.condition.Right.TheVariants as right
use Rattle.rule_types.specs.declared.action.What.{What}
use Rattle.rule_types.specs.declared.action.What.TheVariants.{Constant, Curve, Series, Pid}
use Rattle.rule_types.specs.declared.action.Action.{Action}
use Rattle.rule_types.specs.declared.action.ActionAt.{ActionAt}
use Rattle.rule_types.specs.declared.action.Branch.{Branch}
use Rattle.rule_types.specs.declared.action.Branch.TheVariants.{Then, Otherwise}
use Rattle.rule_types.specs.declared.rule.Rule.{Rule}
use Rattle.rule_types.specs.declared.names.NameDef.{NameDef}
use Rattle.rule_types.specs.declared.names.NameKind.{NameKind}
use Rattle.rule_types.specs.declared.names.NameKind.TheVariants.{Variable, Formula}
use Rattle.rule_types.specs.Formulas.{formula_names}
use Rattle.rule_types.specs.Keys.{link_read}

-- the keys on the two sides of a condition
abbrev pub side_keys : Side → List Key
side_keys (side.Key key) = key ∷ []
side_keys (side.Expr name) = []

abbrev pub right_keys : Right → List Key
right_keys (right.Key key) = key ∷ []
right_keys (right.Value q) = []

abbrev pub condition_keys : Condition → List Key
condition_keys c = side_keys c.left ++ right_keys c.right

-- the name on the left side of a condition: an expression, or a variable, which reads its key
abbrev pub side_names : Side → List ℕ
side_names (side.Key key) = []
side_names (side.Expr name) = name ∷ []

-- the key of a variable, and the variables of an expression
abbrev pub kind_key : NameKind → List Key
kind_key (Variable key) = key ∷ []
kind_key (Formula formula) = []

abbrev pub kind_names : NameKind → List ℕ
kind_names (Variable key) = []
kind_names (Formula formula) = formula_names formula

-- what the name of a number stands for, read by f; nothing where there is no such name
abbrev pub at_name : {A : Type 0} → (NameKind → List A) → Option NameDef → List A
at_name f None = []
at_name f (Some named) = f named.stands_for

-- whether a name is a variable
abbrev pub is_variable_kind : NameKind → Bool
is_variable_kind (Variable key) = true
is_variable_kind (Formula formula) = false

abbrev pub is_variable : Option NameDef → Bool
is_variable None = false
is_variable (Some named) = is_variable_kind named.stands_for

-- the keys that a name reads: a variable its key, an expression those of its variables
abbrev pub variable_keys : List NameDef → ℕ → List Key
variable_keys names name = at_name kind_key (slice_get names name)

abbrev pub name_keys : List NameDef → ℕ → List Key
name_keys names name =
    variable_keys names name
    ++ flat_map (variable_keys names) (at_name kind_names (slice_get names name))

-- the keys that a condition reads, by itself or through a name
abbrev pub condition_reads : List NameDef → Condition → List Key
condition_reads names c = condition_keys c ++ flat_map (name_keys names) (side_names c.left)

-- the keys that rules read
abbrev pub keys_read : List NameDef → List Rule → List Key
keys_read names = flat_map (λ rule. flat_map (condition_reads names) rule.conditions)

-- the links whose setting, status or timer rules read
abbrev pub links_read : List NameDef → List Rule → List ℕ
links_read names rules = flat_map link_read (keys_read names rules)

-- the names on the sides of a rule's conditions
abbrev pub rule_names : Rule → List ℕ
rule_names rule = flat_map (λ c. side_names c.left) rule.conditions

-- the names that rules use: those on a side, and those in an expression that is on a side
abbrev pub used_names : List NameDef → List Rule → List ℕ
used_names names rules =
    flat_map rule_names rules
    ++ flat_map (λ name. at_name kind_names (slice_get names name)) (flat_map rule_names rules)

-- the actions of a rule, those of THEN before those of ELSE
abbrev pub rule_actions : Rule → List Action
rule_actions rule = rule.then_actions ++ rule.else_actions

-- the actions of one of its branches
abbrev pub branch_actions : Rule → Branch → List Action
branch_actions rule Then = rule.then_actions
branch_actions rule Otherwise = rule.else_actions

-- the action at a place, if there is one
abbrev pub branch_action : ActionAt → Option Rule → Option Action
branch_action at None = None
branch_action at (Some rule) = slice_get (branch_actions rule at.branch) at.action

unfoldable pub action_at : List Rule → ActionAt → Option Action
action_at rules at = branch_action at (slice_get rules at.rule)

-- the links that rules act on
abbrev pub links_acted : List Rule → List ℕ
links_acted = flat_map (λ rule. flat_map (λ action. action.link ∷ []) (rule_actions rule))

-- the number of a PID action
abbrev pub pid_of : What → List ℕ
pid_of (Constant q) = []
pid_of (Curve curve) = []
pid_of (Series series) = []
pid_of (Pid set number) = number ∷ []

-- the numbers of the PID actions of rules, in the order of rules and of actions
unfoldable pub pid_numbers : List Rule → List ℕ
pid_numbers = flat_map (λ rule. flat_map (λ action. pid_of action.what) (rule_actions rule))

-- how many PID actions rules have
unfoldable pub pid_count : List Rule → ℕ
pid_count rules = length (pid_numbers rules)
