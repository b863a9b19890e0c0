-- Whole input files, worked out by hand.
use Rattle.std.specs.Prelude.{◌≡◌, ℕ, true, false, List, [], ◌∷◌, ◌++◌, codes, map, take}
use Rattle.std.specs.Prelude.{None, Some, Result, Ok, Err, pos}
use Rattle.exact_fraction.specs.Number.{Rational, whole, zero, one, ratio}
use Rattle.exact_fraction.specs.declared.relation.Relation.{Relation}
use Rattle.exact_fraction.specs.declared.relation.Relation.TheVariants.{Eq, Gt, Le}
use Rattle.inp_text.specs.Sections.{Line}
use Rattle.object_index.specs.Objects.{Objects}
use Rattle.rule_types.specs.declared.action.Action.{Action}
use Rattle.rule_types.specs.declared.action.What.TheVariants as what
use Rattle.rule_types.specs.declared.condition.Condition.{Condition}
use Rattle.rule_types.specs.declared.condition.Right.TheVariants as right
use Rattle.rule_types.specs.declared.condition.Side.TheVariants as side
use Rattle.rule_types.specs.declared.key.Attr.{Attr}
use Rattle.rule_types.specs.declared.key.Attr.TheVariants as attributes
use Rattle.rule_types.specs.declared.key.ClockAttr.TheVariants.{Time}
use Rattle.rule_types.specs.declared.key.Key.{Key}
use Rattle.rule_types.specs.declared.key.Key.TheVariants as keys
use Rattle.rule_types.specs.declared.names.NameKind.TheVariants.{Variable, Formula}
use Rattle.rule_types.specs.declared.expr.Expr.TheVariants.{Number, Name, Mul}
use Rattle.rule_types.specs.declared.object.ObjectKind.TheVariants as kinds
use Rattle.rule_types.specs.declared.object.Space.TheVariants.{Nodes, Links}
use Rattle.rule_types.specs.declared.refusal.Cause.{Cause}
use Rattle.rule_types.specs.declared.refusal.Cause.TheVariants as causes
use Rattle.rule_types.specs.declared.refusal.Refusal.{Refusal}
use Rattle.rule_types.specs.declared.rule.Rule.{Rule}
use Rattle.rule_types.specs.declared.rules.Rules.{Rules}
use Rattle.rule_types.specs.Tables.{TableSet}
use Rattle.rule_parser.specs.Projects.{project_of}
use Rattle.rule_parser.specs.declared.project.Project.{Project}

abbrev pub lines : List (List ℕ) → List Line
lines texts = map Some texts

abbrev pub reads : List (List ℕ) → Result Project Refusal
reads texts = project_of (lines texts)

abbrev pub refused : ℕ → Cause → List ℕ → Result Project Refusal
refused line cause token = Err (record { line = line; cause = cause; token = token })

-- two pumps at a node of a station, and rules that start and stop them by the node's depth
abbrev pub station : List (List ℕ)
station =
    codes "[JUNCTIONS]"
    ∷ codes "N1"
    ∷ codes "[PUMPS]"
    ∷ codes "N1A N1 N2 * OFF"
    ∷ codes "N1B N1 N2 * OFF"
    ∷ codes "[CONTROLS]"
    ∷ codes "RULE R3A"
    ∷ codes "IF NODE N1 DEPTH > 5"
    ∷ codes "THEN PUMP N1A STATUS = ON"
    ∷ codes "RULE R3B"
    ∷ codes "IF NODE N1 DEPTH <= 3"
    ∷ codes "THEN PUMP N1A STATUS = OFF"
    ∷ codes "AND PUMP N1B STATUS = OFF" ∷ []

abbrev pub depth : Key
depth = keys.Object (record { space = Nodes; index = 0 }) attributes.Depth

abbrev pub compares : Relation → ℕ → Condition
compares relation number = record {
  left = side.Key depth;
  rel = relation;
  right = right.Value (whole (pos number));
  half_step = false;
  joined_by_and = true;
}

abbrev pub sets : ℕ → Rational → Action
sets link value = record { link = link; what = what.Constant value }

abbrev pub rule : List ℕ → Condition → List Action → Rule
rule id condition actions = record {
  id = id;
  conditions = condition ∷ [];
  then_actions = actions;
  else_actions = [];
  priority = None;
}

abbrev pub station_rules : Rules
station_rules = record {
  rules =
      rule (codes "R3A") (compares Gt 5) (sets 0 one ∷ [])
      ∷ rule (codes "R3B") (compares Le 3) (sets 0 zero ∷ sets 1 zero ∷ []) ∷ [];
  names = [];
  input_keys = depth ∷ [];
  tracked = 0 ∷ 1 ∷ [];
  controlled = 0 ∷ 1 ∷ [];
  pumps = true ∷ true ∷ [];
  initial = zero ∷ zero ∷ [];
  rates = zero ∷ zero ∷ [];
  start = None;
  routing_step = whole (pos 20);
  rule_step = zero;
}

abbrev pub station_objects : Objects
station_objects = record {
  nodes = record { name = codes "N1"; kind = kinds.Node } ∷ [];
  links =
      record { name = codes "N1A"; kind = kinds.Pump }
      ∷ record { name = codes "N1B"; kind = kinds.Pump } ∷ [];
  gages = [];
}

-- no curve and no series
abbrev pub no_tables : TableSet
no_tables = record { curves = []; series = [] }

-- a project of no rules and no objects
abbrev pub empty_rules : Rules
empty_rules = record {
  rules = [];
  names = [];
  input_keys = [];
  tracked = [];
  controlled = [];
  pumps = [];
  initial = [];
  rates = [];
  start = None;
  routing_step = whole (pos 20);
  rule_step = zero;
}

abbrev pub empty_project : Project
empty_project = record {
  rules = empty_rules;
  tables = no_tables;
  objects = record { nodes = []; links = []; gages = [] };
}

-- a basin with an orifice that takes half an hour to move, and rules that read and set it
abbrev pub basin : List (List ℕ)
basin =
    codes "[CONTROLS]"
    ∷ codes "VARIABLE flow = LINK C1 FLOW"
    ∷ codes "RULE A"
    ∷ codes "IF Flow > 1"
    ∷ codes "OR SIMULATION TIME = 2:00"
    ∷ codes "AND ORIFICE O1 TIMEOPEN > FLOW"
    ∷ codes "THEN ORIFICE O1 SETTING = PID 1 0 0"
    ∷ codes "ELSE ORIFICE O1 SETTING = 1"
    ∷ codes "AND OUTLET out SETTING = PID 1 1 0"
    ∷ codes "PRIORITY 2"
    ∷ codes "[OPTIONS]"
    ∷ codes "RULE_STEP 0:05:00"
    ∷ codes "routing_step 60"
    ∷ codes "[CONDUITS]"
    ∷ codes "C1"
    ∷ codes "C2"
    ∷ codes "[OUTLETS]"
    ∷ codes "Out"
    ∷ codes "[ORIFICES]"
    ∷ codes "O1 S1 N SIDE 0 0.65 NO 0.5"
    ∷ codes "[CONTROLS]"
    ∷ codes "RULE B"
    ∷ codes "IF CONDUIT C2 STATUS = CLOSED"
    ∷ codes "THEN ORIFICE O1 SETTING = PID 1 1 1" ∷ []

abbrev pub of_link : ℕ → Attr → Key
of_link link attribute = keys.Object (record { space = Links; index = link }) attribute

abbrev pub pid : ℕ → Rational → Rational → ℕ → Action
pid link integral derivative number = record {
  link = link;
  what = what.Pid (record { gain = one; integral = integral; derivative = derivative }) number;
}

abbrev pub basin_conditions : List Condition
basin_conditions =
    record {
      left = side.Key (of_link 0 attributes.Flow);
      rel = Gt;
      right = right.Value one;
      half_step = false;
      joined_by_and = true;
    }
    ∷ record {
      left = side.Key (keys.Clock Time);
      rel = Eq;
      right = right.Value (whole (pos 2));
      half_step = true;
      joined_by_and = false;
    }
    ∷ record {
      left = side.Key (of_link 3 attributes.TimeOpen);
      rel = Gt;
      right = right.Key (of_link 0 attributes.Flow);
      half_step = false;
      joined_by_and = true;
    } ∷ []

abbrev pub basin_rules : Rules
basin_rules = record {
  rules =
      record {
        id = codes "A";
        conditions = basin_conditions;
        then_actions = pid 3 zero zero 0 ∷ [];
        else_actions = sets 3 one ∷ pid 2 one zero 1 ∷ [];
        priority = Some (whole (pos 2));
      }
      ∷ rule (codes "B")
      (record {
        left = side.Key (of_link 1 attributes.Status);
        rel = Eq;
        right = right.Value zero;
        half_step = false;
        joined_by_and = true;
      })
      (pid 3 one one 2 ∷ []) ∷ [];
  names = record { name = codes "flow"; stands_for = Variable (of_link 0 attributes.Flow) } ∷ [];
  input_keys = of_link 0 attributes.Flow ∷ [];
  tracked = 1 ∷ 2 ∷ 3 ∷ [];
  controlled = 2 ∷ 3 ∷ [];
  pumps = false ∷ false ∷ [];
  initial = one ∷ one ∷ one ∷ [];
  rates = zero ∷ zero ∷ ratio (pos 1) 2 ∷ [];
  start = None;
  routing_step = whole (pos 60);
  rule_step = whole (pos 300);
}

abbrev pub basin_objects : Objects
basin_objects = record {
  nodes = [];
  links =
      record { name = codes "C1"; kind = kinds.Conduit }
      ∷ record { name = codes "C2"; kind = kinds.Conduit }
      ∷ record { name = codes "Out"; kind = kinds.Outlet }
      ∷ record { name = codes "O1"; kind = kinds.Orifice } ∷ [];
  gages = [];
}

-- an orifice that a curve sets by a depth; no rule uses the other curve or the expression
abbrev pub curved_with : List ℕ → List ℕ → List (List ℕ)
curved_with curve formula =
    codes "[JUNCTIONS]"
    ∷ codes "N1"
    ∷ codes "[ORIFICES]"
    ∷ codes "O1"
    ∷ codes "[CURVES]"
    ∷ curve
    ∷ codes "C2 Control x"
    ∷ codes "[CONTROLS]"
    ∷ codes "VARIABLE a = NODE N1 DEPTH"
    ∷ formula
    ∷ codes "RULE A"
    ∷ codes "IF a > 1"
    ∷ codes "THEN ORIFICE O1 SETTING = CURVE c1" ∷ []

abbrev pub curved : List (List ℕ)
curved = curved_with (codes "C1 Control 0 0 3 1") (codes "EXPRESSION e = 2*a")

abbrev pub curved_rules : Rules
curved_rules = record {
  rules =
      rule (codes "A")
      (record {
        left = side.Key depth;
        rel = Gt;
        right = right.Value one;
        half_step = false;
        joined_by_and = true;
      })
      (record { link = 0; what = what.Curve (record { index = 0 }) } ∷ []) ∷ [];
  names =
      record { name = codes "a"; stands_for = Variable depth }
      ∷ record {
        name = codes "e";
        stands_for = Formula (Mul (Number (whole (pos 2))) (Name 0));
      } ∷ [];
  input_keys = depth ∷ [];
  tracked = 0 ∷ [];
  controlled = 0 ∷ [];
  pumps = false ∷ [];
  initial = one ∷ [];
  rates = zero ∷ [];
  start = None;
  routing_step = whole (pos 20);
  rule_step = zero;
}

abbrev pub curved_tables : TableSet
curved_tables = record {
  curves =
      Some (record {
        name = codes "C1";
        points = record { x = zero; y = zero } ∷ record { x = whole (pos 3); y = one } ∷ [];
      })
      ∷ None ∷ [];
  series = [];
}

abbrev pub curved_objects : Objects
curved_objects = record {
  nodes = record { name = codes "N1"; kind = kinds.Node } ∷ [];
  links = record { name = codes "O1"; kind = kinds.Orifice } ∷ [];
  gages = [];
}

-- the first lines of the station's file, and these behind them
abbrev pub station_with : ℕ → List (List ℕ) → List (List ℕ)
station_with count later = take count station ++ later

pub record AreProjects : Type 0 where
  pub whole_file : reads station ≡ Ok (record {
    rules = station_rules;
    tables = no_tables;
    objects = station_objects;
  })
  pub more_sections : reads basin ≡ Ok (record {
    rules = basin_rules;
    tables = no_tables;
    objects = basin_objects;
  })
  pub with_curve :
      reads curved ≡ Ok (record {
        rules = curved_rules;
        tables = curved_tables;
        objects = curved_objects;
      })
  pub no_line : reads [] ≡ Ok empty_project
  pub unread_section : reads (codes "[MAP]" ∷ codes "RULE" ∷ []) ≡ Ok empty_project

-- one fault a file
pub record AreRefusals : Type 0 where
  pub unfinished : reads (station_with 8 []) ≡ refused 8 causes.ClauseOrder (codes "IF")
  pub head_alone :
      reads (station_with 7 (codes "; note" ∷ [])) ≡ refused 7 causes.ClauseOrder (codes "RULE")
  pub too_early :
      reads (station_with 7 (codes "THEN PUMP N1A STATUS = ON" ∷ []))
      ≡ refused 8 causes.ClauseOrder (codes "THEN")
  pub no_form :
      reads (station_with 9 (codes "THEN" ∷ [])) ≡ refused 10 causes.BadClause (codes "THEN")
  pub condition_behind_then :
      reads (station_with 9 (codes "and NODE N1 DEPTH > 5" ∷ []))
      ≡ refused 10 causes.ClauseOrder (codes "and")
  pub object_below :
      reads (codes "[CONTROLS]" ∷ codes "RULE A" ∷ codes "IF NODE N1 DEPTH > x"
      ∷ codes "[JUNCTIONS]" ∷ codes "N1" ∷ [])
      ≡ refused 3 causes.ClauseOrder (codes "IF")
  pub wrong_value_first :
      reads (codes "[CONTROLS]" ∷ codes "RULE A" ∷ codes "IF NODE N1 DEPTH > x"
      ∷ codes "THEN NODE" ∷ codes "[JUNCTIONS]" ∷ codes "N1" ∷ codes "N1" ∷ [])
      ≡ refused 3 causes.WrongValue (codes "x")
  pub duplicate :
      reads (station_with 5 (codes "N1A" ∷ [])) ≡ refused 6 causes.DuplicateName (codes "N1A")
  pub option_last :
      reads (station_with 13 (codes "[OPTIONS]" ∷ codes "RULE_STEP 60" ∷ []))
      ≡ refused 15 causes.BadOption (codes "RULE_STEP")
  pub option_first :
      reads (codes "[OPTIONS]" ∷ codes "RULE_STEP 24:00:01" ∷ codes "[CONTROLS]" ∷ codes "THEN"
      ∷ [])
      ≡ refused 2 causes.RuleStep (codes "24:00:01")
  pub bad_text :
      reads (codes "[CURVES]" ∷ (codes "C1" ++ 1 ∷ []) ∷ []) ≡ refused 2 causes.BadText []
  pub bad_text_before_form :
      reads (codes "[CONTROLS]" ∷ (codes "THEN" ++ 127 ∷ []) ∷ []) ≡ refused 2 causes.BadText []
  pub too_long :
      project_of (lines (codes "[CONTROLS]" ∷ []) ++ None ∷ lines (codes "THEN" ∷ []))
      ≡ Err (record { line = 2; cause = causes.LineTooLong; token = [] })
  pub twice :
      reads (station_with 6 (codes "VARIABLE a = NODE N1 DEPTH"
      ∷ codes "VARIABLE A = SIMULATION TIME" ∷ []))
      ≡ refused 8 causes.DuplicateName (codes "A")
  pub duplicate_in_a_rule :
      reads (station_with 6 (codes "VARIABLE a = NODE N1 DEPTH" ∷ codes "RULE A"
      ∷ codes "VARIABLE A = SIMULATION TIME" ∷ []))
      ≡ refused 9 causes.DuplicateName (codes "A")
  pub bad_curve :
      reads (curved_with (codes "C1 Control 0 0 0 1") (codes "EXPRESSION e = 2*a"))
      ≡ refused 6 causes.BadCurve (codes "C1")
  pub unknown_in_formula :
      reads (curved_with (codes "C1 Control 0 0") (codes "EXPRESSION e = 2 * b"))
      ≡ refused 10 causes.UnknownName (codes "b")
  pub outside_function :
      reads (curved_with (codes "C1 Control 0 0") (codes "EXPRESSION e = sqrt (a)"))
      ≡ refused 10 causes.OutsideFunction (codes "sqrt")
  pub no_formula :
      reads (curved_with (codes "C1 Control 0 0") (codes "EXPRESSION e = 2^9"))
      ≡ refused 10 causes.BadExpression (codes "e")
  pub later_curve :
      reads (curved_with (codes "C1 Control 0") (codes "EXPRESSION e = 2^9"))
      ≡ refused 6 causes.BadCurve (codes "C1")
  pub no_curve :
      reads (curved_with (codes "C3 Control 0 0") (codes "EXPRESSION e = 2*a"))
      ≡ refused 13 causes.UnknownTable (codes "c1")
