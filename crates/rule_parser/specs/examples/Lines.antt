-- Conditions, actions, declared names and statements, worked out by hand.
use Rattle.std.specs.Prelude.{◌≡◌, ℕ, true, false, List, [], ◌∷◌, ◌++◌, codes, Option, None, Some}
use Rattle.std.specs.Prelude.{Ok, Err, pos, replicate}
use Rattle.exact_fraction.specs.Number.{Rational, whole, zero, one, ratio}
use Rattle.exact_fraction.specs.declared.relation.Relation.{Relation}
use Rattle.exact_fraction.specs.declared.relation.Relation.TheVariants.{Eq, Ne, Gt}
use Rattle.inp_text.specs.Items.{words}
use Rattle.object_index.specs.Objects.{Objects}
use Rattle.rule_types.specs.declared.action.Action.{Action}
use Rattle.rule_types.specs.declared.action.What.TheVariants as what
use Rattle.rule_types.specs.declared.condition.Condition.{Condition}
use Rattle.rule_types.specs.declared.condition.Right.{Right}
use Rattle.rule_types.specs.declared.condition.Right.TheVariants as right
use Rattle.rule_types.specs.declared.condition.Side.{Side}
use Rattle.rule_types.specs.declared.condition.Side.TheVariants as side
use Rattle.rule_types.specs.declared.expr.Expr.TheVariants.{Name}
use Rattle.rule_types.specs.declared.key.Attr.{Attr}
use Rattle.rule_types.specs.declared.key.Attr.TheVariants as attributes
use Rattle.rule_types.specs.declared.key.ClockAttr.TheVariants as clock
use Rattle.rule_types.specs.declared.key.Key.{Key}
use Rattle.rule_types.specs.declared.key.Key.TheVariants as keys
use Rattle.rule_types.specs.declared.names.NameDef.{NameDef}
use Rattle.rule_types.specs.declared.names.NameKind.TheVariants.{Variable, Formula}
use Rattle.rule_types.specs.declared.object.ObjectKind.TheVariants as kinds
use Rattle.rule_types.specs.declared.object.Space.TheVariants.{Nodes, Links}
use Rattle.rule_types.specs.declared.refusal.Cause.{Cause}
use Rattle.rule_types.specs.declared.rule.Rule.{Rule}
use Rattle.rule_types.specs.declared.refusal.Cause.TheVariants as causes
use Rattle.control_lines.specs.Faults.{Checked, fault_of}
use Rattle.control_lines.specs.Statements as statements
use Rattle.control_lines.specs.Statements.{Statement, ConditionText, ActionText, statement_of}
use Rattle.control_lines.specs.declared.clause.Stage.TheVariants.{Headed, InThen}
use Rattle.curves_series.specs.Names.{NamedTables}
use Rattle.rule_parser.specs.Actions.{action_read}
use Rattle.rule_parser.specs.Conditions.{condition_read}
use Rattle.rule_parser.specs.Controls.{Context, statement_read}
use Rattle.rule_parser.specs.declared.draft.Draft.{Draft}
use Rattle.rule_parser.specs.Declarations.{name_read}
use Rattle.network_lines.specs.Limits.{room_for}
use Rattle.rule_parser.specs.Limits.{most_names}

-- a part of a line that is at fault
abbrev pub refused : {A : Type 0} → Cause → List ℕ → Checked A
refused cause token = Err (fault_of cause token)

abbrev pub half : Rational
half = ratio (pos 1) 2

-- ---- conditions
abbrev pub objects : Objects
objects = record {
  nodes = record { name = codes "N1"; kind = kinds.Node } ∷ [];
  links =
      record { name = codes "P1"; kind = kinds.Pump }
      ∷ record { name = codes "O1"; kind = kinds.Orifice }
      ∷ record { name = codes "Ca"; kind = kinds.Conduit }
      ∷ record { name = codes "cA"; kind = kinds.Conduit } ∷ [];
  gages = [];
}

abbrev pub depth : Key
depth = keys.Object (record { space = Nodes; index = 0 }) attributes.Depth

abbrev pub pump : Attr → Key
pump attribute = keys.Object (record { space = Links; index = 0 }) attribute

abbrev pub status : Key
status = pump attributes.Status

-- the variables `q` and `On`, and the expression `e`
abbrev pub names : List NameDef
names =
    record { name = codes "q"; stands_for = Variable (keys.Clock clock.Time) }
    ∷ record { name = codes "On"; stands_for = Variable depth }
    ∷ record { name = codes "e"; stands_for = Formula (Name 1) } ∷ []

abbrev pub of_statement : Option Statement → Checked Condition
of_statement (Some (statements.Condition written)) = condition_read objects names written
of_statement other = refused causes.BadClause []

abbrev pub reads : List ℕ → Checked Condition
reads text = of_statement (statement_of Headed (words text))

-- a condition without a half step that begins a group
abbrev pub compares : Side → Relation → Right → Checked Condition
compares left relation other = Ok (record {
  left = left;
  rel = relation;
  right = other;
  half_step = false;
  joined_by_and = true;
})

abbrev pub half_step : Relation → Rational → Checked Condition
half_step relation time = Ok (record {
  left = side.Key (keys.Clock clock.Time);
  rel = relation;
  right = right.Value time;
  half_step = true;
  joined_by_and = true;
})

pub record AreConditions : Type 0 where
  pub number :
      reads (codes "IF NODE n1 DEPTH > 5")
      ≡ compares (side.Key depth) Gt (right.Value (whole (pos 5)))
  pub joined_by_or :
      reads (codes "OR NODE N1 DEPTH > 0")
      ≡ Ok (record {
        left = side.Key depth;
        rel = Gt;
        right = right.Value zero;
        half_step = false;
        joined_by_and = false;
      })
  pub time : reads (codes "IF SIMULATION TIME = 22:45") ≡ half_step Eq (ratio (pos 91) 4)
  pub time_of_variable : reads (codes "IF Q = 22:45:00") ≡ half_step Eq (ratio (pos 91) 4)
  pub later :
      reads (codes "IF q > 1.5")
      ≡ compares (side.Key (keys.Clock clock.Time)) Gt (right.Value (ratio (pos 3) 2))
  pub time_and_variable :
      reads (codes "IF SIMULATION TIME = Q")
      ≡ compares (side.Key (keys.Clock clock.Time)) Eq (right.Key (keys.Clock clock.Time))
  pub expression :
      reads (codes "IF E > 0.5") ≡ compares (side.Expr 2) Gt (right.Value half)
  pub on :
      reads (codes "IF PUMP P1 STATUS = OPEN") ≡ compares (side.Key status) Eq (right.Value one)
  pub variable_before_status :
      reads (codes "IF PUMP P1 STATUS = ON") ≡ compares (side.Key status) Eq (right.Key depth)
  pub clock_time :
      reads (codes "IF SIMULATION CLOCKTIME <> 1:00")
      ≡ Ok (record {
        left = side.Key (keys.Clock clock.ClockTime);
        rel = Ne;
        right = right.Value one;
        half_step = true;
        joined_by_and = true;
      })
  pub timer :
      reads (codes "IF LINK P1 TIMEOPEN > 1:30")
      ≡ compares (side.Key (pump attributes.TimeOpen)) Gt (right.Value (ratio (pos 3) 2))
  pub closed_timer :
      reads (codes "IF PUMP P1 TIMECLOSED > 1:30")
      ≡ compares (side.Key (pump attributes.TimeClosed)) Gt (right.Value (ratio (pos 3) 2))
  pub day :
      reads (codes "IF SIMULATION DAYOFYEAR > 060")
      ≡ compares (side.Key (keys.Clock clock.DayOfYear)) Gt (right.Value (whole (pos 60)))
  pub no_day :
      reads (codes "IF SIMULATION DAYOFYEAR > 2/29") ≡ refused causes.WrongValue (codes "2/29")
  pub past_a_year :
      reads (codes "IF SIMULATION DAYOFYEAR > 367") ≡ refused causes.WrongValue (codes "367")
  pub no_date : reads (codes "IF SIMULATION DATE > 7") ≡ refused causes.WrongValue (codes "7")
  pub month :
      reads (codes "IF SIMULATION MONTH = 7")
      ≡ compares (side.Key (keys.Clock clock.Month)) Eq (right.Value (whole (pos 7)))
  pub no_status : reads (codes "IF PUMP P1 STATUS = 1") ≡ refused causes.WrongValue (codes "1")
  pub large_status :
      reads (codes "IF PUMP P1 STATUS = 1e99") ≡ refused causes.NumberTooLarge (codes "1e99")
  pub no_number : reads (codes "IF NODE N1 DEPTH > 1:00") ≡ refused causes.WrongValue (codes "1:00")
  pub expression_on_the_right : reads (codes "IF q > e") ≡ refused causes.WrongValue (codes "e")
  pub no_object : reads (codes "IF NODE X DEPTH > 5") ≡ refused causes.UnknownObject (codes "X")
  pub ambiguous : reads (codes "IF LINK CA FLOW > 5") ≡ refused causes.UnknownObject (codes "CA")
  pub other_kind : reads (codes "IF PUMP O1 FLOW > x") ≡ refused causes.WrongKind (codes "O1")
  pub no_attribute :
      reads (codes "IF NODE N1 FLOW > x") ≡ refused causes.UnknownAttribute (codes "FLOW")
  pub no_clock :
      reads (codes "IF SIMULATION DEPTH > 1") ≡ refused causes.UnknownAttribute (codes "DEPTH")
  pub no_name : reads (codes "IF foo > abc") ≡ refused causes.UnknownName (codes "foo")
  pub number_on_the_left : reads (codes "IF 5 > q") ≡ refused causes.UnknownName (codes "5")
  pub right_before_left :
      reads (codes "IF foo > NODE X DEPTH") ≡ refused causes.UnknownObject (codes "X")
  pub left_of_two :
      reads (codes "IF NODE Y HEAD > NODE X HEAD") ≡ refused causes.UnknownObject (codes "Y")

-- ---- actions
-- a curve, a series, and a series that is in a file
abbrev pub tables : NamedTables
tables = record {
  curves = codes "C1" ∷ [];
  series = codes "S0" ∷ codes "S1" ∷ [];
  file_series = true ∷ false ∷ [];
}

abbrev pub of_action : Option Statement → Checked Action
of_action (Some (statements.Action written)) = action_read objects tables 7 written
of_action other = refused causes.BadClause []

abbrev pub acts : List ℕ → Checked Action
acts text = of_action (statement_of Headed (words text))

pub record AreActions : Type 0 where
  pub status :
      acts (codes "THEN PUMP P1 STATUS = off") ≡ Ok (record { link = 0; what = what.Constant zero })
  pub setting :
      acts (codes "THEN ORIFICE O1 SETTING = 0.5")
      ≡ Ok (record { link = 1; what = what.Constant half })
  pub minus_zero :
      acts (codes "THEN ORIFICE O1 SETTING = -0")
      ≡ Ok (record { link = 1; what = what.Constant zero })
  pub curve :
      acts (codes "THEN ORIFICE O1 SETTING = CURVE c1")
      ≡ Ok (record { link = 1; what = what.Curve (record { index = 0 }) })
  pub series :
      acts (codes "THEN ORIFICE O1 SETTING = TIMESERIES S1")
      ≡ Ok (record { link = 1; what = what.Series (record { index = 1 }) })
  pub pid :
      acts (codes "THEN PUMP P1 SETTING = PID 1 0 .5")
      ≡ Ok (record {
        link = 0;
        what = what.Pid (record { gain = one; integral = zero; derivative = half }) 7;
      })
  pub no_curve :
      acts (codes "THEN ORIFICE O1 SETTING = CURVE S1") ≡ refused causes.UnknownTable (codes "S1")
  pub no_series :
      acts (codes "THEN ORIFICE O1 SETTING = TIMESERIES C1")
      ≡ refused causes.UnknownTable (codes "C1")
  pub in_file :
      acts (codes "THEN ORIFICE O1 SETTING = TIMESERIES s0")
      ≡ refused causes.FileSeries (codes "s0")
  pub negative :
      acts (codes "THEN ORIFICE O1 SETTING = -1") ≡ refused causes.WrongValue (codes "-1")
  pub large :
      acts (codes "THEN ORIFICE O1 SETTING = -1e99") ≡ refused causes.NumberTooLarge (codes "-1e99")
  pub status_as_setting :
      acts (codes "THEN PUMP P1 SETTING = ON") ≡ refused causes.WrongValue (codes "ON")
  pub curve_of_status :
      acts (codes "THEN PUMP P1 STATUS = curve C1") ≡ refused causes.WrongValue (codes "curve")
  pub pid_of_status :
      acts (codes "THEN PUMP P1 STATUS = PID 1e99 0 0") ≡ refused causes.WrongValue (codes "PID")
  pub no_numbers :
      acts (codes "THEN PUMP P1 SETTING = pid 1 x 0") ≡ refused causes.WrongValue (codes "pid")
  pub large_number :
      acts (codes "THEN PUMP P1 SETTING = PID 1 1e99 2e99")
      ≡ refused causes.NumberTooLarge (codes "1e99")
  pub word_first :
      acts (codes "THEN PUMP P1 SETTING = PID 1e99 x 0") ≡ refused causes.WrongValue (codes "PID")
  pub status_of_orifice :
      acts (codes "THEN ORIFICE O1 STATUS = ON") ≡ refused causes.UnknownAttribute (codes "STATUS")
  pub setting_of_conduit :
      acts (codes "THEN CONDUIT Ca SETTING = 1") ≡ refused causes.UnknownAttribute (codes "SETTING")
  pub other_attribute :
      acts (codes "THEN PUMP P1 FLOW = 1") ≡ refused causes.UnknownAttribute (codes "FLOW")
  pub other_kind : acts (codes "THEN PUMP O1 SPEED = 1") ≡ refused causes.WrongKind (codes "O1")

-- ---- declared names
abbrev pub declared : Checked (Unit {0} × (Unit {0} × Unit {0}))
declared = Ok (tt, (tt, tt))

pub record AreNames : Type 0 where
  pub new : name_read names (codes "_r2") ≡ declared
  pub status : name_read [] (codes "ON") ≡ declared
  pub function : name_read names (codes "abs") ≡ declared
  pub again : name_read names (codes "Q") ≡ refused causes.DuplicateName (codes "Q")
  pub word : name_read names (codes "Link") ≡ refused causes.ReservedName (codes "Link")
  pub simulation :
      name_read names (codes "simulation") ≡ refused causes.ReservedName (codes "simulation")
  pub digit_first : name_read names (codes "2r") ≡ refused causes.ReservedName (codes "2r")
  pub last_name : room_for (codes "names") most_names 1_023 ≡ Ok tt
  pub no_room : room_for (codes "names") most_names 1_024 ≡ refused causes.TooMany (codes "names")
  pub hyphen : name_read names (codes "a-b") ≡ refused causes.ReservedName (codes "a-b")

-- ---- statements behind others
abbrev pub some_condition : Condition
some_condition = record {
  left = side.Key depth;
  rel = Gt;
  right = right.Value zero;
  half_step = false;
  joined_by_and = true;
}

abbrev pub some_action : Action
some_action = record { link = 1; what = what.Constant half }

-- a rule with so many conditions, and actions in its two parts
abbrev pub rule_with : ℕ → ℕ → ℕ → Rule
rule_with conditions actions others = record {
  id = codes "R";
  conditions = replicate conditions some_condition;
  then_actions = replicate actions some_action;
  else_actions = replicate others some_action;
  priority = None;
}

-- a file of so many rules before this one
abbrev pub behind : ℕ → Rule → Draft
behind rules rule = record {
  stage = InThen;
  names = names;
  closed = replicate rules (rule_with 1 1 0);
  last = Some rule;
  pids = 7;
}

abbrev pub context : Context
context = record {
  objects = objects;
  tables = tables;
}

abbrev pub follows : Draft → Option Statement → Checked Draft
follows draft None = refused causes.BadClause []
follows draft (Some statement) = statement_read context draft statement

-- the draft after one more line behind a rule
abbrev pub next : Draft → List ℕ → Checked Draft
next draft text = follows draft (statement_of InThen (words text))

-- the cause that is reported of a part of a line
abbrev pub cause_of : {A : Type 0} → Checked A → Option Cause
cause_of (Ok value) = None
cause_of (Err fault) = Some fault.cause

abbrev pub otherwise : List ℕ
otherwise = codes "AND ORIFICE O1 SETTING = 0.5"

pub record AreStatements : Type 0 where
  pub more : next (behind 2 (rule_with 1 1 0)) otherwise ≡ Ok (behind 2 (rule_with 1 2 0))
  pub more_else : next (behind 2 (rule_with 1 1 1)) otherwise ≡ Ok (behind 2 (rule_with 1 1 2))
  pub first_else :
      next (behind 2 (rule_with 1 1 0)) (codes "ELSE ORIFICE O1 SETTING = 0.5")
      ≡ Ok (behind 2 (rule_with 1 1 1))
  pub condition :
      next (behind 2 (rule_with 1 1 0)) (codes "IF NODE N1 DEPTH > 0")
      ≡ Ok (behind 2 (rule_with 2 1 0))
  pub priority :
      next (behind 2 (rule_with 1 1 0)) (codes "PRIORITY 1")
      ≡ Ok (behind 2 (record (rule_with 1 1 0) { priority = Some one }))
  pub no_priority :
      next (behind 2 (rule_with 1 1 0)) (codes "PRIORITY x") ≡ refused causes.WrongValue (codes "x")
  pub pid :
      next (behind 2 (rule_with 1 0 0)) (codes "THEN ORIFICE O1 SETTING = PID 1 1 1")
      ≡ Ok (record (behind 2 (record (rule_with 1 0 0) {
        then_actions = record {
          link = 1;
          what = what.Pid (record { gain = one; integral = one; derivative = one }) 7;
        } ∷ [];
      })) { pids = 8 })
  pub head :
      next (behind 2 (rule_with 1 1 0)) (codes "RULE S")
      ≡ Ok (record (behind 3 (record (rule_with 0 0 0) { id = codes "S" })) { stage = InThen })
  pub variable :
      next (behind 2 (rule_with 1 1 0)) (codes "VARIABLE d = NODE N1 DEPTH")
      ≡ Ok (record (behind 2 (rule_with 1 1 0)) {
        names = names ++ record { name = codes "d"; stands_for = Variable depth } ∷ [];
      })
  pub no_key :
      next (behind 2 (rule_with 1 1 0)) (codes "VARIABLE node = NODE N1 FLOW")
      ≡ refused causes.UnknownAttribute (codes "FLOW")
  pub duplicate_expression :
      next (behind 2 (rule_with 1 1 0)) (codes "EXPRESSION Q = 1 +")
      ≡ refused causes.DuplicateName (codes "Q")
  pub no_formula :
      next (behind 2 (rule_with 1 1 0)) (codes "EXPRESSION f = 1 +")
      ≡ refused causes.BadExpression (codes "f")
  pub last_action :
      cause_of (next (behind 2 (rule_with 1 63 64)) (codes "THEN PUMP P1 STATUS = ON")) ≡ None
  pub no_action :
      next (behind 2 (rule_with 1 64 0)) (codes "THEN PUMP P1 STATUS = ON")
      ≡ refused causes.TooMany (codes "actions")
  pub no_else :
      next (behind 2 (rule_with 1 1 64)) otherwise ≡ refused causes.TooMany (codes "actions")
  pub large_first :
      next (behind 2 (rule_with 1 1 64)) (codes "AND ORIFICE O1 SETTING = 1e99")
      ≡ refused causes.NumberTooLarge (codes "1e99")
  pub last_condition :
      cause_of (next (behind 2 (rule_with 255 0 0)) (codes "OR NODE N1 DEPTH > 1")) ≡ None
  pub no_condition :
      next (behind 2 (rule_with 256 0 0)) (codes "OR NODE N1 DEPTH > 1")
      ≡ refused causes.TooMany (codes "conditions")

-- a file with as many rules as there may be, and one more
pub record AreFull : Type 0 where
  pub last_rule : cause_of (next (behind 4_094 (rule_with 1 1 0)) (codes "RULE S")) ≡ None
  pub no_rule :
      next (behind 4_095 (rule_with 1 1 0)) (codes "RULE S")
      ≡ refused causes.TooMany (codes "rules")
