-- Small formulas that examples speak of, and conditions between two keys.
use Rattle.std.specs.Prelude.{ℕ, true, false, None, [], ◌∷◌}
use Rattle.exact_fraction.specs.Number.{Rational, zero, one}
use Rattle.exact_fraction.specs.declared.relation.Relation.{Relation}
use Rattle.rule_types.specs.declared.condition.Condition.{Condition}
use Rattle.rule_types.specs.declared.condition.Side.TheVariants as side
use Rattle.rule_types.specs.declared.condition.Right.TheVariants as right
use Rattle.rule_types.specs.declared.expr.Expr.{Expr}
use Rattle.rule_types.specs.declared.expr.Expr.TheOpen.{Expr-F}
use Rattle.rule_types.specs.declared.expr.Expr.TheViews.{roll-Expr}
use Rattle.rule_types.specs.declared.key.Key.{Key}
use Rattle.rule_types.specs.declared.rules.Rules.{Rules}
use Rattle.rule_meaning.specs.Formula.{Derived, formula_value}
use Rattle.rule_meaning.specs.Examples.{depth, plain_rules, rules_of, state_of, variable_of}

-- a condition of two keys, joined by AND
abbrev pub against : Key → Relation → Key → Condition
against key relation other =
    record {
      left = side.Key key;
      rel = relation;
      right = right.Key other;
      half_step = false;
      joined_by_and = true;
    }

-- rules over the depths of nodes 0 and 1, without a rule
abbrev pub two_depths : Rules
two_depths = plain_rules (depth 0 ∷ depth 1 ∷ []) []

-- the value of a formula over one variable, the depth of node 0, where that is missing
abbrev pub formula_of : Expr → Derived
formula_of =
    formula_value
    (rules_of (variable_of (depth 0) ∷ []) (depth 0 ∷ []) zero 300 0 [])
    (state_of 0 300 (None ∷ []) one one)

-- a number, a variable, the missing one, and each operation
abbrev pub constant : Rational → Expr
constant q = roll-Expr (Expr-F.Number q)

abbrev pub named : ℕ → Expr
named name = roll-Expr (Expr-F.Name name)

abbrev pub missing : Expr
missing = named 0

abbrev pub negated : Expr → Expr
negated a = roll-Expr (Expr-F.Neg a)

abbrev pub size : Expr → Expr
size a = roll-Expr (Expr-F.Abs a)

abbrev pub sign : Expr → Expr
sign a = roll-Expr (Expr-F.Sgn a)

abbrev pub unit_step : Expr → Expr
unit_step a = roll-Expr (Expr-F.Step a)

abbrev pub sum : Expr → Expr → Expr
sum a b = roll-Expr (Expr-F.Add a b)

abbrev pub difference : Expr → Expr → Expr
difference a b = roll-Expr (Expr-F.Sub a b)

abbrev pub product : Expr → Expr → Expr
product a b = roll-Expr (Expr-F.Mul a b)

abbrev pub quotient : Expr → Expr → Expr
quotient a b = roll-Expr (Expr-F.Div a b)

abbrev pub to_power : Expr → ℕ → Expr
to_power a n = roll-Expr (Expr-F.Pow a n)
