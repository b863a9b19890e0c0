-- Small rules and states that examples speak of.
use Rattle.std.specs.Prelude.{ℕ, Bool, true, false, Option, Some, None, List, [], ◌∷◌, ◌+ℤ◌, ℤ, pos}
use Rattle.exact_fraction.specs.Number.{Rational, ratio, whole, zero, one}
use Rattle.exact_fraction.specs.declared.relation.Relation.{Relation}
use Rattle.rule_types.specs.declared.object.Space.TheVariants.{Nodes, Links}
use Rattle.rule_types.specs.declared.key.Attr.{Attr}
use Rattle.rule_types.specs.declared.key.Attr.TheVariants.{Depth, Flow}
use Rattle.rule_types.specs.declared.key.Key.{Key}
use Rattle.rule_types.specs.declared.key.Key.TheVariants.{Object}
use Rattle.rule_types.specs.declared.condition.Condition.{Condition}
use Rattle.rule_types.specs.declared.condition.Side.TheVariants as side
use Rattle.rule_types.specs.declared.condition.Right.TheVariants as right
use Rattle.rule_types.specs.declared.action.Action.{Action}
use Rattle.rule_types.specs.declared.action.ActionAt.{ActionAt}
use Rattle.rule_types.specs.declared.action.Branch.TheVariants.{Then}
use Rattle.rule_types.specs.declared.action.Order.{Order}
use Rattle.rule_meaning.specs.History.{Standing}
use Rattle.rule_types.specs.declared.action.What.TheVariants.{Constant, Curve, Series, Pid}
use Rattle.rule_types.specs.declared.action.PidSet.{PidSet}
use Rattle.rule_types.specs.declared.action.PidMemory.{PidMemory}
use Rattle.rule_meaning.specs.Pid.{Stepped}
use Rattle.rule_types.specs.declared.rule.Rule.{Rule}
use Rattle.rule_types.specs.declared.rules.Rules.{Rules}
use Rattle.rule_types.specs.declared.expr.Expr.{Expr}
use Rattle.rule_types.specs.declared.expr.Expr.TheOpen.{Expr-F}
use Rattle.rule_types.specs.declared.expr.Expr.TheViews.{roll-Expr}
use Rattle.rule_types.specs.declared.names.NameDef.{NameDef}
use Rattle.rule_types.specs.declared.names.NameKind.TheVariants.{Variable, Formula}
use Rattle.rule_types.specs.declared.state.State.{State}
use Rattle.rule_types.specs.declared.table.Point.{Point}
use Rattle.rule_types.specs.Tables.{TableSet, CurveTable, SeriesTable}

-- whole numbers and decimals
abbrev pub number : ℕ → Rational
number n = whole (pos n)

abbrev pub decimal : ℕ → ℕ → Rational
decimal n d = ratio (pos n) d

-- the depth of a node, the flow of a link and a link's timers
abbrev pub depth : ℕ → Key
depth node = Object (record { space = Nodes; index = node }) Depth

abbrev pub link_key : Attr → ℕ → Key
link_key attribute link = Object (record { space = Links; index = link }) attribute

-- conditions of a key and a number, joined by AND or by OR
abbrev pub joined : Bool → Key → Relation → Rational → Condition
joined by_and key relation q =
    record {
      left = side.Key key;
      rel = relation;
      right = right.Value q;
      half_step = false;
      joined_by_and = by_and;
    }

abbrev pub and_if : Key → Relation → Rational → Condition
and_if = joined true

abbrev pub or_if : Key → Relation → Rational → Condition
or_if = joined false

-- the same where it holds within half a step
abbrev pub half_step_if : Key → Relation → Rational → Condition
half_step_if key relation q =
    record {
      left = side.Key key;
      rel = relation;
      right = right.Value q;
      half_step = true;
      joined_by_and = true;
    }

-- a condition of the expression of a place, joined by OR
abbrev pub or_if_name : ℕ → Relation → Rational → Condition
or_if_name name relation q =
    record {
      left = side.Expr name;
      rel = relation;
      right = right.Value q;
      half_step = false;
      joined_by_and = false;
    }

-- actions on a link: a number, curve 0, series 0, PID 0
abbrev pub set_to : ℕ → Rational → Action
set_to link q = record { link = link; what = Constant q }

abbrev pub by_curve : ℕ → Action
by_curve link = record { link = link; what = Curve (record { index = 0 }) }

abbrev pub by_series : ℕ → Action
by_series link = record { link = link; what = Series (record { index = 0 }) }

abbrev pub pid_numbers_of : Rational → Rational → Rational → PidSet
pid_numbers_of gain integral derivative =
    record { gain = gain; integral = integral; derivative = derivative }

abbrev pub by_pid : ℕ → PidSet → Action
by_pid link set = record { link = link; what = Pid set 0 }

-- a rule
abbrev pub rule_of : List Condition → List Action → List Action → Option Rational → Rule
rule_of conditions then_actions else_actions priority =
    record {
      id = [];
      conditions = conditions;
      then_actions = then_actions;
      else_actions = else_actions;
      priority = priority;
    }

-- a PID's memory, and what a step of it gives
abbrev pub errors : Rational → Rational → PidMemory
errors e1 e2 = record { e1 = e1; e2 = e2 }

abbrev pub stepped : Rational → Rational → Rational → Stepped
stepped value e1 e2 = record { value = value; memory = errors e1 e2 }

-- the order that the first THEN action of a rule gives to link 0
abbrev pub first_action : ℕ → ActionAt
first_action rule = record { rule = rule; branch = Then; action = 0 }

abbrev pub order_by : ℕ → Rational → Order
order_by rule q = record { link = 0; by = first_action rule; value = q }

-- link 0 at a setting and a target
abbrev pub stands : Rational → Rational → List Standing
stands setting target = record { setting = setting; target = target } ∷ []

-- rules over these input keys that act on link 0, an orifice with this rate, at a routing step and
-- a RULE_STEP in seconds
abbrev pub rules_of : List NameDef → List Key → Rational → ℕ → ℕ → List Rule → Rules
rules_of names keys rate routing_step rule_step rules =
    record {
      rules = rules;
      names = names;
      input_keys = keys;
      tracked = 0 ∷ [];
      controlled = 0 ∷ [];
      pumps = false ∷ [];
      initial = one ∷ [];
      rates = rate ∷ [];
      start = None;
      routing_step = number routing_step;
      rule_step = number rule_step;
    }

-- no names, no rate, a routing step of 5 minutes and a RULE_STEP of 0
abbrev pub plain_rules : List Key → List Rule → Rules
plain_rules keys = rules_of [] keys zero 300 0

-- the second on which 2001-06-15 begins
abbrev pub midnight : ℤ
midnight = pos 992563200

-- a state at so many seconds after midnight, with a start at midnight, a step in seconds, these
-- inputs and link 0 at a setting and a target
abbrev pub state_of : ℕ → ℕ → List (Option Rational) → Rational → Rational → State
state_of seconds step inputs setting target =
    record {
      moment = midnight +ℤ pos seconds;
      start = midnight;
      step = number step;
      inputs = inputs;
      links = record { setting = setting; target = target; timer = ratio (pos seconds) 3600 } ∷ [];
    }

-- the points of a straight line
abbrev pub straight : Rational → Rational → Rational → Rational → List Point
straight x0 y0 x1 y1 = record { x = x0; y = y0 } ∷ record { x = x1; y = y1 } ∷ []

-- tables without a curve or a series; the curve from (0, 0) to (3, 1); the dated series from (7:00,
-- 0.1) to (8:00, 0.2); the series without dates from (0, 0.5) to (24, 3)
abbrev pub no_tables : TableSet
no_tables = record { curves = []; series = [] }

abbrev pub slope : CurveTable
slope = record { name = []; points = straight zero zero (number 3) one }

abbrev pub morning : SeriesTable
morning =
    record {
      name = [];
      dated = true;
      points = straight (number 275719) (decimal 1 10) (number 275720) (decimal 1 5);
    }

abbrev pub whole_day : SeriesTable
whole_day =
    record {
      name = [];
      dated = false;
      points = straight zero (decimal 1 2) (number 24) (number 3);
    }

abbrev pub example_tables : TableSet
example_tables = record { curves = Some slope ∷ []; series = Some morning ∷ [] }

abbrev pub undated_tables : TableSet
undated_tables = record { curves = []; series = Some whole_day ∷ [] }

-- the quotient of two variables, and the expression (p + q) / 2 - r
abbrev pub variable_of : Key → NameDef
variable_of key = record { name = []; stands_for = Variable key }

abbrev pub quotient_names : List NameDef
quotient_names =
    variable_of (depth 0) ∷ variable_of (depth 1)
    ∷ record {
      name = [];
      stands_for =
          Formula (roll-Expr (Expr-F.Div (roll-Expr (Expr-F.Name 0)) (roll-Expr (Expr-F.Name 1))));
    } ∷ []

abbrev pub net_inflow : Expr
net_inflow =
    roll-Expr (Expr-F.Sub
    (roll-Expr (Expr-F.Div
    (roll-Expr (Expr-F.Add (roll-Expr (Expr-F.Name 0)) (roll-Expr (Expr-F.Name 1))))
    (roll-Expr (Expr-F.Number (number 2)))))
    (roll-Expr (Expr-F.Name 2)))

abbrev pub flow_names : List NameDef
flow_names =
    variable_of (link_key Flow 1) ∷ variable_of (link_key Flow 2) ∷ variable_of (link_key Flow 3)
    ∷ record { name = []; stands_for = Formula net_inflow } ∷ []
