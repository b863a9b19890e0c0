-- Rules, ranges and certificates of worked examples.
use Rattle.std.specs.Prelude.{ℕ, Bool, true, false, Option, Some, None, Result, Err, List, []}
use Rattle.std.specs.Prelude.{◌∷◌, ℤ, pos, ◌+ℤ◌}
use Rattle.exact_fraction.specs.Number.{Rational, zero, one}
use Rattle.exact_fraction.specs.declared.relation.Relation.TheVariants.{Le, Gt, Ge}
use Rattle.interval_sets.specs.declared.interval.Interval.{Interval}
use Rattle.rule_types.specs.declared.action.Action.{Action}
use Rattle.rule_types.specs.declared.action.What.TheVariants.{Constant}
use Rattle.rule_types.specs.declared.condition.Condition.{Condition}
use Rattle.rule_types.specs.declared.condition.Right.TheVariants as right
use Rattle.rule_types.specs.declared.condition.Side.TheVariants as side
use Rattle.rule_types.specs.declared.key.Attr.TheVariants.{Flow, Setting, Status, TimeOpen}
use Rattle.rule_types.specs.declared.key.ClockAttr.TheVariants.{ClockTime}
use Rattle.rule_types.specs.declared.key.Key.{Key}
use Rattle.rule_types.specs.declared.key.Key.TheVariants.{Clock}
use Rattle.rule_types.specs.declared.rule.Rule.{Rule}
use Rattle.rule_types.specs.declared.rules.Rules.{Rules}
use Rattle.rule_types.specs.declared.state.LinkState.{LinkState}
use Rattle.rule_types.specs.declared.state.State.{State}
use Rattle.rule_meaning.specs.Examples.{number, decimal, depth, link_key, and_if, or_if, set_to}
use Rattle.rule_meaning.specs.Examples.{rule_of, midnight, by_curve}
use Rattle.verdict_meaning.specs.declared.cell.Cell.{Cell}
use Rattle.verdict_meaning.specs.declared.cert.Cert.{Cert}
use Rattle.verdict_meaning.specs.declared.cert.Cert.TheOpen.{Cert-F}
use Rattle.verdict_meaning.specs.declared.cert.Cert.TheViews.{roll-Cert}
use Rattle.verdict_meaning.specs.declared.cert.CertCause.{CertCause}
use Rattle.verdict_meaning.specs.declared.cert.CertCause.TheVariants as cause
use Rattle.verdict_meaning.specs.declared.cert.Reason.{Reason}
use Rattle.verdict_meaning.specs.declared.cert.Reason.TheVariants.{Whole, Facts}
use Rattle.verdict_meaning.specs.declared.question.Question.{Question}
use Rattle.verdict_meaning.specs.declared.question.Question.TheVariants.{Conflict, Dead, Limit}
use Rattle.verdict_meaning.specs.declared.ranges.Ranges.{Ranges}
use Rattle.verdict_meaning.specs.Certificates.{NodeFault}
use Rattle.verdict_meaning.specs.Hulls.{closed}

-- ---- a node, a conduit and an orifice: the depth of the node, the flow of the conduit, link 0

abbrev pub flow : Key
flow = link_key Flow 1

-- rules over these input keys that act on link 0 with this rate, prepared for ranges
abbrev pub prepared : List Key → Rational → List Rule → Rules
prepared keys rate rules =
    record {
      rules = rules;
      names = [];
      input_keys = keys;
      tracked = 0 ∷ [];
      controlled = 0 ∷ [];
      pumps = false ∷ [];
      initial = one ∷ [];
      rates = rate ∷ [];
      start = Some midnight;
      routing_step = number 20;
      rule_step = zero;
    }

-- over depth 12 and flow 100 the orifice is half open, over depth 12 and flow 200 it is open, and
-- otherwise closed
abbrev pub half_open_rule : Rule
half_open_rule =
    rule_of (and_if (depth 0) Gt (number 12) ∷ and_if flow Gt (number 100) ∷ [])
    (set_to 0 (decimal 1 2) ∷ []) [] None

abbrev pub open_rule : Rule
open_rule =
    rule_of (and_if (depth 0) Gt (number 12) ∷ and_if flow Gt (number 200) ∷ []) (set_to 0 one ∷ [])
    [] None

abbrev pub closed_rule : Rule
closed_rule =
    rule_of (and_if (depth 0) Le (number 12) ∷ or_if flow Le (number 100) ∷ []) (set_to 0 zero ∷ [])
    [] None

abbrev pub gate_rules : Rules
gate_rules = prepared (depth 0 ∷ flow ∷ []) zero (half_open_rule ∷ open_rule ∷ closed_rule ∷ [])

-- ranges of these keys, without moments
abbrev pub ranges_of : List (Key × Interval) → Ranges
ranges_of keys =
    record {
      keys = keys;
      moments = None;
      start = midnight;
      step = number 20;
      questions = [];
    }

-- depth from 0 to 20, flow from 0 to 300
abbrev pub gate_ranges : Ranges
gate_ranges =
    ranges_of ((depth 0, closed zero (number 20)) ∷ (flow, closed zero (number 300)) ∷ [])

-- a state with this depth and this flow, where link 0 is open
abbrev pub gate_state : Rational → Rational → State
gate_state level rate =
    record {
      moment = midnight;
      start = midnight;
      step = number 20;
      inputs = Some level ∷ Some rate ∷ [];
      links = record { setting = one; target = one; timer = zero } ∷ [];
    }

-- ---- certificates

abbrev pub leaf_of : Reason → Cert
leaf_of reason = roll-Cert (Cert-F.Leaf reason)

abbrev pub split : Key → Rational → Cert → Cert → Cert → Cert
split key q below at above = roll-Cert (Cert-F.Split key q below at above)

-- a split of the depth at 12 and, above it, of the flow at a number, with these reasons at the
-- leaves in the order of their lines
unfoldable pub gate_tree : Rational → Reason → Reason → Reason → Reason → Reason → Cert
gate_tree q first second third fourth fifth =
    split (depth 0) (number 12) (leaf_of first) (leaf_of second)
    (split flow q (leaf_of third) (leaf_of fourth) (leaf_of fifth))

abbrev pub fact : ℕ → Reason
fact number = Facts ((number, false) ∷ [])

abbrev pub no_facts : Reason
no_facts = Facts []

abbrev pub two_facts : Reason
two_facts = Facts ((0, true) ∷ (2, false) ∷ [])

-- a fault at a node
abbrev pub fails : CertCause → ℕ → Result ℕ NodeFault
fails why place = Err (record { place = place; cause = why })

abbrev pub shape : CertCause
shape = cause.Shape

abbrev pub not_shown : CertCause
not_shown = cause.NotShown
