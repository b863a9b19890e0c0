-- Ranges files of a station, worked out by hand.
use Rattle.std.specs.Prelude.{◌≡◌, ℕ, true, false, List, [], ◌∷◌, codes, map}
use Rattle.std.specs.Prelude.{None, Some, Result, Ok, Err, pos, negsuc}
use Rattle.exact_fraction.specs.Number.{Rational, whole, zero, one, ratio}
use Rattle.exact_fraction.specs.declared.relation.Relation.TheVariants.{Gt}
use Rattle.inp_text.specs.Sections.{Line}
use Rattle.interval_sets.specs.declared.interval.Interval.{Interval}
use Rattle.object_index.specs.Objects.{Objects}
use Rattle.rule_types.specs.declared.action.Action.{Action}
use Rattle.rule_types.specs.declared.action.What.{What}
use Rattle.rule_types.specs.declared.action.What.TheVariants as what
use Rattle.rule_types.specs.declared.condition.Condition.{Condition}
use Rattle.rule_types.specs.declared.condition.Right.TheVariants as right
use Rattle.rule_types.specs.declared.condition.Side.{Side}
use Rattle.rule_types.specs.declared.condition.Side.TheVariants as side
use Rattle.rule_types.specs.declared.key.Attr.{Attr}
use Rattle.rule_types.specs.declared.key.Attr.TheVariants as attributes
use Rattle.rule_types.specs.declared.key.ClockAttr.TheVariants.{Time}
use Rattle.rule_types.specs.declared.key.Key.{Key}
use Rattle.rule_types.specs.declared.key.Key.TheVariants as keys
use Rattle.rule_types.specs.declared.names.NameKind.TheVariants.{Variable}
use Rattle.rule_types.specs.declared.object.ObjectKind.TheVariants as kinds
use Rattle.rule_types.specs.declared.object.Space.TheVariants.{Nodes, Links}
use Rattle.rule_types.specs.declared.rule.Rule.{Rule}
use Rattle.rule_types.specs.declared.rules.Rules.{Rules}
use Rattle.verdict_meaning.specs.declared.question.Question.{Question}
use Rattle.verdict_meaning.specs.declared.question.Question.TheVariants.{Conflict, Dead, Limit}
use Rattle.verdict_meaning.specs.declared.ranges.Ranges.{Ranges}
use Rattle.range_lines.specs.Causes.{FileFault, line_fault, missing_range, missing_moment}
use Rattle.range_lines.specs.Causes.{fault_text}
use Rattle.range_lines.specs.Lines.{closed, ranges_in}
use Rattle.range_lines.specs.declared.fault.RangeCause.{RangeCause}
use Rattle.range_lines.specs.declared.fault.RangeCause.TheVariants as cause

-- ---- a station: a node, a gage, two pumps and an orifice that no rule acts on
abbrev pub station : Objects
station = record {
  nodes = record { name = codes "N1"; kind = kinds.Node } ∷ [];
  links =
      record { name = codes "P1"; kind = kinds.Pump }
      ∷ record { name = codes "P2"; kind = kinds.Pump }
      ∷ record { name = codes "O1"; kind = kinds.Orifice } ∷ [];
  gages = record { name = codes "G1"; kind = kinds.Gage } ∷ [];
}

abbrev pub node_key : Attr → Key
node_key attribute = keys.Object (record { space = Nodes; index = 0 }) attribute

abbrev pub link_key : ℕ → Attr → Key
link_key link attribute = keys.Object (record { space = Links; index = link }) attribute

abbrev pub above : Side → Condition
above left = record {
  left = left;
  rel = Gt;
  right = right.Value one;
  half_step = false;
  joined_by_and = true;
}

abbrev pub rule : List ℕ → Side → List Action → Rule
rule id left actions = record {
  id = id;
  conditions = above left ∷ [];
  then_actions = actions;
  else_actions = [];
  priority = None;
}

abbrev pub sets : ℕ → What → Action
sets link to = record { link = link; what = to }

-- rules that act on the pumps; the first reads the node, the second a timer through a variable
abbrev pub rules_with : List Rule → Rules
rules_with more = record {
  rules =
      rule (codes "Start") (side.Key (node_key attributes.Depth)) (sets 0 (what.Constant one) ∷ [])
      ∷ rule (codes "STOP") (side.Expr 0)
      (sets 1 (what.Constant zero) ∷ sets 0 (what.Constant zero) ∷ [])
      ∷ more;
  names =
      record { name = codes "t"; stands_for = Variable (link_key 0 attributes.TimeOpen) } ∷ [];
  input_keys = node_key attributes.Depth ∷ [];
  tracked = 0 ∷ 1 ∷ [];
  controlled = 0 ∷ 1 ∷ [];
  pumps = true ∷ true ∷ [];
  initial = one ∷ one ∷ [];
  rates = zero ∷ zero ∷ [];
  start = None;
  routing_step = whole (pos 30);
  rule_step = zero;
}

abbrev pub two_rules : Rules
two_rules = rules_with []

abbrev pub lines : List (List ℕ) → List Line
lines texts = map Some texts

abbrev pub reads : List (List ℕ) → Result Ranges FileFault
reads texts = ranges_in two_rules station (lines texts)

abbrev pub number : ℕ → Rational
number n = whole (pos n)

-- the ranges of the keys that the two rules read
abbrev pub needed : List (Key × Interval)
needed =
    (node_key attributes.Depth, closed zero (number 10))
    ∷ (link_key 0 attributes.TimeOpen, closed zero (number 2)) ∷ []

abbrev pub needed_lines : List (List ℕ)
needed_lines = codes "node n1 depth 0 10 ; feet" ∷ codes "PUMP P1 TIMEOPEN 0 2" ∷ []

abbrev pub with_questions : List Question → Ranges
with_questions questions = record {
  keys = needed;
  moments = None;
  start = pos 0;
  step = number 30;
  questions = questions;
}

-- whether files are read: without a question all are asked; a line may state moments, a step, the
-- questions and ranges that no rule needs
pub record AreRead : Type 0 where
  pub default_questions : reads needed_lines
      ≡ Ok (with_questions (Dead 0 ∷ Dead 1 ∷ Conflict 0 1 0 ∷ []))
  pub questions : reads
      (codes "" ∷ codes "DEAD stop" ∷ codes "CONFLICT STOP start p1"
      ∷ codes "limit P2 -1 1e1" ∷ needed_lines)
      ≡ Ok (with_questions (Dead 1 ∷ Conflict 1 0 0 ∷ Limit 1 (ratio (negsuc 0) 1) (number 10) ∷ []))
  pub moments_and_step : reads
      (codes "MOMENT 1970-01-01T00:01 1/2/1970T0:00" ∷ codes "STEP 0.5"
      ∷ codes "ORIFICE O1 SETTING 0.5 0.5" ∷ codes "DEAD Start" ∷ needed_lines)
      ≡ Ok (record {
        keys =
            (node_key attributes.Depth, closed zero (number 10))
            ∷ (link_key 0 attributes.TimeOpen, closed zero (number 2))
            ∷ (link_key 2 attributes.Setting, closed (ratio (pos 1) 2) (ratio (pos 1) 2)) ∷ [];
        moments = Some (pos 60, pos 86_400);
        start = pos 60;
        step = ratio (pos 1) 2;
        questions = Dead 0 ∷ [];
      })

abbrev pub faulty : List ℕ → RangeCause → Type 0
faulty text why = reads (codes "; ranges" ∷ text ∷ codes "?" ∷ []) ≡ Err (line_fault 2 why)

-- whether these lines have these faults
pub record AreFaults : Type 0 where
  pub too_long : ranges_in two_rules station (None ∷ []) ≡ Err (line_fault 1 cause.BadLine)
  pub control_byte : faulty (1 ∷ codes "; x") cause.BadLine
  pub no_form : faulty (codes "SIMULATION TIME 0 1") cause.BadLine
  pub more_items : faulty (codes "NODE N1 DEPTH 0 1 2") cause.BadLine
  pub no_number : faulty (codes "NODE N9 DEPTH 0 x") cause.BadLine
  pub large_number : faulty (codes "NODE N1 DEPTH 0 1e99") cause.BadLine
  pub below_zero : faulty (codes "NODE N1 SETTING -1 0") cause.BadLine
  pub no_moment : faulty (codes "MOMENT 1970-01-01T00:00 1970-02-30T00:00") cause.BadLine
  pub no_step : faulty (codes "STEP 0") cause.BadLine
  pub one_rule : faulty (codes "CONFLICT STOP stop P9") cause.BadLine
  pub unknown_object : faulty (codes "NODE N9 DEPTH 1 0") cause.UnknownKey
  pub other_kind : faulty (codes "WEIR P1 FLOW 0 1") cause.UnknownKey
  pub no_range : faulty (codes "PUMP P1 STATUS -1 1") cause.UnknownKey
  pub unknown_attribute : faulty (codes "NODE N1 WIDTH 0 1") cause.UnknownKey
  pub unknown_rule : faulty (codes "CONFLICT X X P1") cause.UnknownKey
  pub free_link : faulty (codes "LIMIT O1 1 0") cause.UnknownKey
  pub dead_rule : faulty (codes "DEAD go") cause.UnknownKey
  pub empty_range : faulty (codes "NODE N1 DEPTH 2 1") cause.EmptyRange
  pub empty_moments :
      faulty (codes "MOMENT 1970-01-02T00:00 1970-01-01T00:00") cause.EmptyRange
  pub empty_limit : faulty (codes "LIMIT P1 1 0") cause.EmptyRange
  pub again : reads (codes "PUMP P1 FLOW 0 1" ∷ codes "LINK p1 flow 0 2" ∷ [])
      ≡ Err (line_fault 2 cause.Duplicate)
  pub moments_again : reads
      (codes "MOMENT 1970-01-01T00:00 1970-01-01T00:00"
      ∷ codes "MOMENT 1970-01-01T00:00 1970-01-01T00:00" ∷ [])
      ≡ Err (line_fault 2 cause.Duplicate)
  pub step_again : reads (codes "STEP 1" ∷ codes "STEP 1" ∷ []) ≡ Err (line_fault 2 cause.Duplicate)

-- what these files lack: a range first, then the moments for the clock or a series
abbrev pub clock_rule : Rule
clock_rule = rule (codes "R") (side.Key (keys.Clock Time)) (sets 0 (what.Constant one) ∷ [])

abbrev pub series_rule : Rule
series_rule =
    rule (codes "R") (side.Key (node_key attributes.Depth))
    (sets 0 (what.Series (record { index = 0 })) ∷ [])

pub record AreNeeds : Type 0 where
  pub first_key : reads [] ≡ Err (missing_range (node_key attributes.Depth))
  pub timer : reads (codes "NODE N1 DEPTH 0 1" ∷ [])
      ≡ Err (missing_range (link_key 0 attributes.TimeOpen))
  pub range_first : ranges_in (rules_with (clock_rule ∷ [])) station []
      ≡ Err (missing_range (node_key attributes.Depth))
  pub clock : ranges_in (rules_with (clock_rule ∷ [])) station (lines needed_lines)
      ≡ Err missing_moment
  pub series : ranges_in (rules_with (series_rule ∷ [])) station (lines needed_lines)
      ≡ Err missing_moment

pub record AreReports : Type 0 where
  pub of_line : fault_text station (line_fault 12 cause.Duplicate)
      ≡ codes "error: ranges line 12: Duplicate (6)"
  pub of_key : fault_text station (missing_range (link_key 1 attributes.Flow))
      ≡ codes "error: ranges: MissingRange (4): LINK P2 FLOW"
  pub of_moments : fault_text station missing_moment
      ≡ codes "error: ranges: MissingMoment (5)"
