-- One small rule, and what is like it but for one place, which well formed rules can or cannot
-- have.
use Rattle.std.specs.Prelude.{ℕ, suc, true, None, List, [], ◌∷◌, codes, map, pos, negsuc}
use Rattle.std.specs.Prelude.{zero as nothing}
use Rattle.std.specs.List.{range_with_len}
use Rattle.exact_fraction.specs.Number.{Rational, whole, zero, one}
use Rattle.exact_fraction.specs.declared.relation.Relation.{Relation}
use Rattle.rule_types.specs.declared.object.Space.TheVariants.{Nodes, Links}
use Rattle.rule_types.specs.declared.key.Attr.{Attr}
use Rattle.rule_types.specs.declared.key.Attr.TheVariants.{Depth}
use Rattle.rule_types.specs.declared.key.Key.{Key}
use Rattle.rule_types.specs.declared.key.Key.TheVariants.{Object}
use Rattle.rule_types.specs.declared.condition.Condition.{Condition}
use Rattle.rule_types.specs.declared.condition.Side.{Side}
use Rattle.rule_types.specs.declared.condition.Side.TheVariants as side
use Rattle.rule_types.specs.declared.condition.Right.{Right}
use Rattle.rule_types.specs.declared.action.Action.{Action}
use Rattle.rule_types.specs.declared.rule.Rule.{Rule}
use Rattle.rule_types.specs.declared.rules.Rules.{Rules}
use Rattle.rule_types.specs.declared.expr.Expr.{Expr}
use Rattle.rule_types.specs.declared.expr.Expr.TheOpen.{Expr-F}
use Rattle.rule_types.specs.declared.expr.Expr.TheViews.{roll-Expr}
use Rattle.rule_types.specs.declared.names.NameDef.{NameDef}
use Rattle.rule_types.specs.declared.names.NameKind.TheVariants.{Variable, Formula}
use Rattle.rule_types.specs.Examples.{well_depth, well, above, if_deep, set_pump, by_pid}

-- IF NODE Well DEPTH > 1 THEN the pump is on
abbrev pub small_rule : Rule
small_rule = record {
  id = codes "Small";
  conditions = if_deep ∷ [];
  then_actions = set_pump one ∷ [];
  else_actions = [];
  priority = None;
}

abbrev pub small_rules : Rules
small_rules = record {
  rules = small_rule ∷ [];
  names = well ∷ above ∷ [];
  input_keys = well_depth ∷ [];
  tracked = 0 ∷ [];
  controlled = 0 ∷ [];
  pumps = true ∷ [];
  initial = one ∷ [];
  rates = zero ∷ [];
  start = None;
  routing_step = whole (pos 20);
  rule_step = zero;
}

-- another rule in its place, the rule with other parts, and other names
abbrev pub with_rules : List Rule → Rules
with_rules rules = record small_rules { rules = rules }

abbrev pub with_rule : Rule → Rules
with_rule rule = with_rules (rule ∷ [])

abbrev pub with_condition : Condition → Rules
with_condition c = with_rule (record small_rule { conditions = c ∷ [] })

abbrev pub with_actions : List Action → List Action → Rules
with_actions then_actions else_actions =
    with_rule (record small_rule { then_actions = then_actions; else_actions = else_actions })

abbrev pub with_names : List NameDef → Rules
with_names names = record small_rules { names = names }

-- other lists of keys and links
abbrev pub with_inputs : List Key → Rules
with_inputs keys = record small_rules { input_keys = keys }

abbrev pub with_links : List ℕ → List ℕ → Rules
with_links tracked controlled =
    record small_rules {
      tracked = tracked;
      controlled = controlled;
      pumps = map (λ link. true) controlled;
      initial = map (λ link. one) tracked;
      rates = map (λ link. zero) tracked;
    }

-- another rate and initial setting of the link, and another routing step
abbrev pub with_times : Rational → Rational → Rational → Rules
with_times rate setting step =
    record small_rules { rates = rate ∷ []; initial = setting ∷ []; routing_step = step }

-- PID actions of these numbers on another link, in THEN and in ELSE
abbrev pub with_pids : ℕ → ℕ → Rules
with_pids first second =
    record (with_actions (by_pid first ∷ []) (by_pid second ∷ [])) {
      tracked = 2 ∷ [];
      controlled = 2 ∷ [];
    }

-- numbers: -1 and 2, and the seventh, which is no multiple of 10^-9
abbrev pub minus_one : Rational
minus_one = whole (negsuc 0)

abbrev pub two : Rational
two = whole (pos 2)

abbrev pub seventh : Rational
seventh = record { num = pos 1; below = 6 }

-- conditions with this left side, and with this right side
abbrev pub if_left : Side → Condition
if_left left = record if_deep { left = left }

abbrev pub if_right : Right → Condition
if_right right = record if_deep { right = right }

-- a half-step condition of these sides
abbrev pub if_half_step : Key → Relation → Right → Condition
if_half_step key relation right = record {
  left = side.Key key;
  rel = relation;
  right = right;
  half_step = true;
  joined_by_and = true;
}

-- an attribute of node 0, and one of link 3
abbrev pub node_key : Attr → Key
node_key attribute = Object (record { space = Nodes; index = 0 }) attribute

abbrev pub link_key : Attr → Key
link_key attribute = Object (record { space = Links; index = 3 }) attribute

-- the names V for a key and E for a formula
abbrev pub variable_of : Key → NameDef
variable_of key = record { name = codes "V"; stands_for = Variable key }

abbrev pub expression_of : Expr → NameDef
expression_of formula = record { name = codes "E"; stands_for = Formula formula }

-- the formulas of a name alone and of a power of it, and the number 0 under so many signs
abbrev pub name_formula : ℕ → Expr
name_formula name = roll-Expr (Expr-F.Name name)

abbrev pub power_formula : ℕ → Expr
power_formula exponent = roll-Expr (Expr-F.Pow (name_formula 0) exponent)

unfoldable pub signs : ℕ → Expr
signs nothing = roll-Expr (Expr-F.Number zero)
signs (suc count) = roll-Expr (Expr-F.Neg (signs count))

-- the depths of so many nodes
abbrev pub depths : ℕ → List Key
depths count =
    map (λ node. Object (record { space = Nodes; index = node }) Depth) (range_with_len 0 count)
