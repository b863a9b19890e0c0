-- Whether a network has the objects that rules name.
use Rattle.std.specs.Prelude.{ℕ, IsSome, All}
use Rattle.rule_types.specs.declared.object.Space.TheVariants.{Links}
use Rattle.rule_types.specs.declared.object.ObjectNo.{ObjectNo}
use Rattle.rule_types.specs.declared.key.Key.{Key}
use Rattle.rule_types.specs.declared.key.Key.TheVariants.{Object, Clock}
use Rattle.rule_types.specs.declared.condition.Condition.{Condition}
use Rattle.rule_types.specs.declared.condition.Side.{Side}
use Rattle.rule_types.specs.declared.condition.Side.TheVariants as side
use Rattle.rule_types.specs.declared.condition.Right.{Right}
use Rattle.rule_types.specs.declared.condition.Right.TheVariants as right
use Rattle.rule_types.specs.declared.rule.Rule.{Rule}
use Rattle.rule_types.specs.declared.names.NameKind.{NameKind}
use Rattle.rule_types.specs.declared.names.NameKind.TheVariants.{Variable, Formula}
use Rattle.rule_types.specs.declared.rules.Rules.{Rules}
use Rattle.object_index.specs.Objects.{Objects, object_at}

-- there is an object of a number
abbrev pub HoldsObject : Objects → ObjectNo → Type 0
HoldsObject objects object = IsSome (object_at objects object)

-- there is the object that a key reads, unless it reads the clock
abbrev pub HoldsKey : Objects → Key → Type 0
HoldsKey objects (Object object attribute) = HoldsObject objects object
HoldsKey objects (Clock attribute) = Unit {0}

-- there is a link at a place in link order
abbrev pub HoldsLink : Objects → ℕ → Type 0
HoldsLink objects link = HoldsObject objects (record { space = Links; index = link })

-- there are the objects that the two sides of a condition name by themselves; an expression names
-- none, but its variables do
abbrev pub HoldsSide : Objects → Side → Type 0
HoldsSide objects (side.Key key) = HoldsKey objects key
HoldsSide objects (side.Expr name) = Unit {0}

abbrev pub HoldsRight : Objects → Right → Type 0
HoldsRight objects (right.Key key) = HoldsKey objects key
HoldsRight objects (right.Value q) = Unit {0}

pub record HoldsCondition (objects : Objects) (c : Condition) : Type 0 where
  pub left : HoldsSide objects c.left
  pub right : HoldsRight objects c.right

-- there are the objects that a rule names: in its conditions, and the links of its actions
pub record HoldsRule (objects : Objects) (rule : Rule) : Type 0 where
  pub conditions : All (HoldsCondition objects) rule.conditions
  pub then_actions : All (λ action. HoldsLink objects action.link) rule.then_actions
  pub else_actions : All (λ action. HoldsLink objects action.link) rule.else_actions

-- there is the object that a variable names
abbrev pub HoldsKind : Objects → NameKind → Type 0
HoldsKind objects (Variable key) = HoldsKey objects key
HoldsKind objects (Formula formula) = Unit {0}

-- there are all objects that rules name: in a rule, in a variable, among the input keys, and among
-- the tracked and the controlled links
pub record HoldsObjects (objects : Objects) (x : Rules) : Type 0 where
  pub rules : All (HoldsRule objects) x.rules
  pub names : All (λ named. HoldsKind objects named.stands_for) x.names
  pub input_keys : All (HoldsKey objects) x.input_keys
  pub tracked : All (HoldsLink objects) x.tracked
  pub controlled : All (HoldsLink objects) x.controlled
