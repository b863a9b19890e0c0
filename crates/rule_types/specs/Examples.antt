-- Small rules with all that rules can have, and states, memories and tables for them.
use Rattle.std.specs.Prelude.{ℕ, true, false, Option, Some, None, List, [], ◌∷◌, codes, pos}
use Rattle.exact_fraction.specs.Number.{Rational, ratio, whole, zero, one}
use Rattle.exact_fraction.specs.declared.relation.Relation.TheVariants.{Eq, Ge, Gt, Le, Ne}
use Rattle.rule_types.specs.declared.object.Space.TheVariants.{Nodes, Links, Gages}
use Rattle.rule_types.specs.declared.key.Attr.TheVariants.{Depth, Flow, HourDepth, Status, TimeOpen}
use Rattle.rule_types.specs.declared.key.ClockAttr.TheVariants.{ClockTime}
use Rattle.rule_types.specs.declared.key.Key.{Key}
use Rattle.rule_types.specs.declared.key.Key.TheVariants.{Object, Clock}
use Rattle.rule_types.specs.declared.condition.Condition.{Condition}
use Rattle.rule_types.specs.declared.condition.Side.TheVariants as side
use Rattle.rule_types.specs.declared.condition.Right.TheVariants as right
use Rattle.rule_types.specs.declared.action.Action.{Action}
use Rattle.rule_types.specs.declared.action.PidMemory.{PidMemory}
use Rattle.rule_types.specs.declared.action.What.TheVariants.{Constant, Curve, Series, Pid}
use Rattle.rule_types.specs.declared.rule.Rule.{Rule}
use Rattle.rule_types.specs.declared.rules.Rules.{Rules}
use Rattle.rule_types.specs.declared.expr.Expr.{Expr}
use Rattle.rule_types.specs.declared.expr.Expr.TheOpen.{Expr-F}
use Rattle.rule_types.specs.declared.expr.Expr.TheViews.{roll-Expr}
use Rattle.rule_types.specs.declared.names.NameDef.{NameDef}
use Rattle.rule_types.specs.declared.names.NameKind.TheVariants.{Variable, Formula}
use Rattle.rule_types.specs.declared.state.LinkState.{LinkState}
use Rattle.rule_types.specs.declared.state.State.{State}
use Rattle.rule_types.specs.declared.table.Point.{Point}
use Rattle.rule_types.specs.Tables.{TableSet}

-- the depth of node 0, the status of link 0, the flow of link 1, the timer of link 2, and the rain
-- of six hours at gage 0
abbrev pub well_depth : Key
well_depth = Object (record { space = Nodes; index = 0 }) Depth

abbrev pub pump_status : Key
pump_status = Object (record { space = Links; index = 0 }) Status

abbrev pub main_flow : Key
main_flow = Object (record { space = Links; index = 1 }) Flow

abbrev pub gate_open : Key
gate_open = Object (record { space = Links; index = 2 }) TimeOpen

abbrev pub recent_rain : Key
recent_rain = Object (record { space = Gages; index = 0 }) (HourDepth 6)

-- the variable Well for that depth, the expression Above for (Well - 2)^2, and the variable Rain
-- for that rain
abbrev pub well : NameDef
well = record { name = codes "Well"; stands_for = Variable well_depth }

abbrev pub difference : Expr
difference =
    roll-Expr (Expr-F.Sub (roll-Expr (Expr-F.Name 0)) (roll-Expr (Expr-F.Number (whole (pos 2)))))

abbrev pub above_formula : Expr
above_formula = roll-Expr (Expr-F.Pow difference 2)

abbrev pub above : NameDef
above = record { name = codes "Above"; stands_for = Formula above_formula }

abbrev pub rain : NameDef
rain = record { name = codes "Rain"; stands_for = Variable recent_rain }

abbrev pub station_names : List NameDef
station_names = well ∷ above ∷ rain ∷ []

-- NODE Well DEPTH > 1; Above <= 0; SIMULATION CLOCKTIME = 6 within half a step
abbrev pub if_deep : Condition
if_deep = record {
  left = side.Key well_depth;
  rel = Gt;
  right = right.Value one;
  half_step = false;
  joined_by_and = true;
}

abbrev pub if_above : Condition
if_above = record {
  left = side.Expr 1;
  rel = Le;
  right = right.Value zero;
  half_step = false;
  joined_by_and = true;
}

abbrev pub if_six : Condition
if_six = record {
  left = side.Key (Clock ClockTime);
  rel = Eq;
  right = right.Value (whole (pos 6));
  half_step = true;
  joined_by_and = false;
}

-- LINK Main FLOW <> 2; Rain >= NODE Well DEPTH; PUMP 0 STATUS = 1; ORIFICE 2 TIMEOPEN <> 1/3 within
-- half a step
abbrev pub if_flowing : Condition
if_flowing = record {
  left = side.Key main_flow;
  rel = Ne;
  right = right.Value (whole (pos 2));
  half_step = false;
  joined_by_and = true;
}

abbrev pub if_rainy : Condition
if_rainy = record {
  left = side.Expr 2;
  rel = Ge;
  right = right.Key well_depth;
  half_step = false;
  joined_by_and = true;
}

abbrev pub if_on : Condition
if_on = record {
  left = side.Key pump_status;
  rel = Eq;
  right = right.Value one;
  half_step = false;
  joined_by_and = true;
}

abbrev pub if_open : Condition
if_open = record {
  left = side.Key gate_open;
  rel = Ne;
  right = right.Value (ratio (pos 1) 3);
  half_step = true;
  joined_by_and = true;
}

-- a pump, link 0, at a number; an orifice, link 2, by a curve, by a series and by a PID
abbrev pub set_pump : Rational → Action
set_pump q = record { link = 0; what = Constant q }

abbrev pub by_curve : Action
by_curve = record { link = 2; what = Curve (record { index = 0 }) }

abbrev pub by_series : Action
by_series = record { link = 2; what = Series (record { index = 0 }) }

abbrev pub by_pid : ℕ → Action
by_pid number = record {
  link = 2;
  what = Pid (record { gain = ratio (pos 1) 10; integral = one; derivative = zero }) number;
}

-- IF deep, AND above, OR at six, THEN the pump is on, ELSE it is off, AND the curve; PRIORITY 3
abbrev pub named_rule : Rule
named_rule = record {
  id = codes "Named";
  conditions = if_deep ∷ if_above ∷ if_six ∷ [];
  then_actions = set_pump one ∷ [];
  else_actions = set_pump zero ∷ by_curve ∷ [];
  priority = Some (whole (pos 3));
}

-- IF flowing THEN the PID
abbrev pub held_rule : Rule
held_rule = record {
  id = codes "Held";
  conditions = if_flowing ∷ [];
  then_actions = by_pid 0 ∷ [];
  else_actions = [];
  priority = None;
}

-- IF rainy, AND on, AND open, THEN the series, ELSE another PID
abbrev pub rainy_rule : Rule
rainy_rule = record {
  id = codes "Rainy";
  conditions = if_rainy ∷ if_on ∷ if_open ∷ [];
  then_actions = by_series ∷ [];
  else_actions = by_pid 1 ∷ [];
  priority = None;
}

-- the three rules; the orifice takes a quarter of an hour
abbrev pub station_rules : Rules
station_rules = record {
  rules = named_rule ∷ held_rule ∷ rainy_rule ∷ [];
  names = station_names;
  input_keys = well_depth ∷ main_flow ∷ recent_rain ∷ [];
  tracked = 0 ∷ 2 ∷ [];
  controlled = 0 ∷ 2 ∷ [];
  pumps = true ∷ false ∷ [];
  initial = one ∷ one ∷ [];
  rates = zero ∷ ratio (pos 1) 4 ∷ [];
  start = None;
  routing_step = whole (pos 300);
  rule_step = zero;
}

-- a link's state where the pump is off, and where the orifice closes
abbrev pub closed_pump : LinkState
closed_pump = record { setting = zero; target = zero; timer = one }

abbrev pub closing_orifice : LinkState
closing_orifice = record { setting = ratio (pos 1) 2; target = zero; timer = zero }

-- a state with these inputs, where the pump is off and the orifice closes
abbrev pub state_with : List (Option Rational) → State
state_with inputs = record {
  moment = pos 992563500;
  start = pos 992563200;
  step = whole (pos 300);
  inputs = inputs;
  links = closed_pump ∷ closing_orifice ∷ [];
}

-- a state that fits, with inputs that are known or missing, and the same with the orifice at these
-- numbers
abbrev pub fitting_state : State
fitting_state = state_with (Some one ∷ None ∷ None ∷ [])

abbrev pub orifice_at : Rational → Rational → Rational → State
orifice_at setting target timer =
    record fitting_state {
      links = closed_pump ∷ record { setting = setting; target = target; timer = timer } ∷ [];
    }

-- the two errors that a PID action keeps, at its start
abbrev pub fresh_memory : PidMemory
fresh_memory = record { e1 = zero; e2 = zero }

-- two points with x that rise, and the same two with x that fall
abbrev pub closed_point : Point
closed_point = record { x = zero; y = zero }

abbrev pub open_point : Point
open_point = record { x = whole (pos 2); y = one }

abbrev pub rising_points : List Point
rising_points = closed_point ∷ open_point ∷ []

abbrev pub falling_points : List Point
falling_points = open_point ∷ closed_point ∷ []

-- tables of one curve and one series with these points
abbrev pub tables_with : List Point → TableSet
tables_with points = record {
  curves = Some (record { name = codes "Opening"; points = points }) ∷ [];
  series = Some (record { name = codes "Season"; dated = false; points = points }) ∷ [];
}
