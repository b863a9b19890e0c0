-- Conditions of the clock, and rules of one such condition, for examples.
use Rattle.std.specs.Prelude.{ℕ, Bool, true, false, None, List, [], ◌∷◌}
use Rattle.exact_fraction.specs.Number.{Rational, zero, one}
use Rattle.exact_fraction.specs.declared.relation.Relation.{Relation}
use Rattle.rule_types.specs.declared.action.What.TheVariants.{Constant}
use Rattle.rule_types.specs.declared.condition.Condition.{Condition}
use Rattle.rule_types.specs.declared.condition.Side.TheVariants as side
use Rattle.rule_types.specs.declared.condition.Right.TheVariants as right
use Rattle.rule_types.specs.declared.key.ClockAttr.{ClockAttr}
use Rattle.rule_types.specs.declared.key.Key.TheVariants.{Clock}
use Rattle.rule_types.specs.declared.names.NameDef.{NameDef}
use Rattle.rule_types.specs.declared.names.NameKind.TheVariants.{Variable}
use Rattle.rule_types.specs.declared.rules.Rules.{Rules}

-- a condition of the clock against a number
abbrev pub clock_condition : ClockAttr → Relation → Rational → Bool → Condition
clock_condition attribute relation q within_half_a_step = record {
  left = side.Key (Clock attribute);
  rel = relation;
  right = right.Value q;
  half_step = within_half_a_step;
  joined_by_and = true;
}

-- the same where the left side is the name of a place
abbrev pub named_condition : ℕ → Relation → Rational → Condition
named_condition name relation q = record {
  left = side.Expr name;
  rel = relation;
  right = right.Value q;
  half_step = false;
  joined_by_and = true;
}

-- a variable that stands for an attribute of the clock
abbrev pub clock_variable : ClockAttr → NameDef
clock_variable attribute =
    record { name = 86 ∷ []; stands_for = Variable (Clock attribute) }

-- rules of one rule of one condition over some names
abbrev pub rules_over : List NameDef → Condition → Rules
rules_over names c = record {
  rules = record {
    id = 82 ∷ [];
    conditions = c ∷ [];
    then_actions = record { link = 0; what = Constant one } ∷ [];
    else_actions = [];
    priority = None;
  } ∷ [];
  names = names;
  input_keys = [];
  tracked = 0 ∷ [];
  controlled = 0 ∷ [];
  pumps = true ∷ [];
  initial = one ∷ [];
  rates = zero ∷ [];
  start = None;
  routing_step = one;
  rule_step = zero;
}

abbrev pub rules_on : Condition → Rules
rules_on c = rules_over [] c
