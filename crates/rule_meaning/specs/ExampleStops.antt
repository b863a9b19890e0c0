-- Rules with more than one stop, of which examples say the one that comes first.
use Rattle.std.specs.Prelude.{ℕ, false, None, Some, List, [], ◌∷◌}
use Rattle.exact_fraction.specs.Number.{Rational, zero, one}
use Rattle.exact_fraction.specs.Operations.{negation_of}
use Rattle.exact_fraction.specs.declared.relation.Relation.TheVariants.{Ne, Gt}
use Rattle.rule_types.specs.declared.action.Action.{Action}
use Rattle.rule_types.specs.declared.action.PidSet.{PidSet}
use Rattle.rule_types.specs.declared.action.What.TheVariants.{Pid}
use Rattle.rule_types.specs.declared.key.Key.{Key}
use Rattle.rule_types.specs.declared.names.NameDef.{NameDef}
use Rattle.rule_types.specs.declared.names.NameKind.TheVariants.{Formula}
use Rattle.rule_types.specs.declared.rule.Rule.{Rule}
use Rattle.rule_types.specs.declared.rules.Rules.{Rules}
use Rattle.rule_types.specs.declared.state.State.{State}
use Rattle.rule_types.specs.Tables.{CurveTable, TableSet}
use Rattle.rule_meaning.specs.ExampleFormulas.{named, product, quotient}
use Rattle.rule_meaning.specs.Examples.{number, depth, and_if, or_if_name, set_to, by_curve, by_pid}
use Rattle.rule_meaning.specs.Examples.{pid_numbers_of, rule_of, rules_of, state_of, straight}
use Rattle.rule_meaning.specs.Examples.{variable_of}

-- rules over these names and input keys that act on links 0 and 1, orifices that move at once
abbrev pub two_links : List NameDef → List Key → List Rule → Rules
two_links names keys rules =
    record (rules_of names keys zero 300 0 rules) {
      tracked = 0 ∷ 1 ∷ [];
      controlled = 0 ∷ 1 ∷ [];
      pumps = false ∷ false ∷ [];
      initial = one ∷ one ∷ [];
      rates = zero ∷ zero ∷ [];
    }

-- a state of two open links at midnight, with these depths of nodes 0 and 1
abbrev pub two_links_state : Rational → Rational → State
two_links_state first second =
    record (state_of 0 300 (Some first ∷ Some second ∷ []) one one) {
      links =
          record { setting = one; target = one; timer = zero }
          ∷ record { setting = one; target = one; timer = zero } ∷ [];
    }

-- a curve that overflows between its points, which rises from -1 by 2^63
abbrev pub steep : CurveTable
steep =
    record {
      name = [];
      points = straight zero (negation_of one) one (number 9223372036854775807);
    }

abbrev pub steep_tables : TableSet
steep_tables = record { curves = Some steep ∷ []; series = [] }

-- a PID whose change overflows, and a second one
abbrev pub steep_pid : PidSet
steep_pid = pid_numbers_of (number 9223372036854775807) zero zero

abbrev pub by_second_pid : ℕ → Action
by_second_pid link = record { link = link; what = Pid steep_pid 1 }

-- rule 0 takes link 0 by the curve and sets link 1; rule 1 has the PID on link 1, and ranks below
abbrev pub beaten_stop_rules : Rules
beaten_stop_rules =
    two_links [] (depth 0 ∷ depth 1 ∷ [])
    (rule_of (and_if (depth 0) Gt zero ∷ []) (by_curve 0 ∷ set_to 1 one ∷ []) [] (Some (number 2))
    ∷ rule_of (and_if (depth 0) Ne (number 3) ∷ []) (by_pid 1 steep_pid ∷ []) [] None ∷ [])

-- one rule takes link 1 by the curve, and then link 0
abbrev pub two_curve_rules : Rules
two_curve_rules =
    two_links [] (depth 0 ∷ depth 1 ∷ [])
    (rule_of (and_if (depth 0) Gt zero ∷ []) (by_curve 1 ∷ by_curve 0 ∷ []) [] None ∷ [])

-- rule 0 has a PID on link 1, and rule 1, which ranks above, has one on link 0
abbrev pub two_pid_rules : Rules
two_pid_rules =
    two_links [] (depth 0 ∷ depth 1 ∷ [])
    (rule_of (and_if (depth 0) Ne (number 3) ∷ []) (by_pid 1 steep_pid ∷ []) [] None
    ∷ rule_of (and_if (depth 0) Ne (number 3) ∷ []) (by_second_pid 0 ∷ []) [] (Some one) ∷ [])

-- the variables of the two depths, their quotient, and the square of the first
abbrev pub stopping_names : List NameDef
stopping_names =
    variable_of (depth 0) ∷ variable_of (depth 1)
    ∷ record { name = []; stands_for = Formula (quotient (named 0) (named 1)) }
    ∷ record { name = []; stands_for = Formula (product (named 0) (named 0)) } ∷ []

-- rule 0 has a PID, and rule 1 uses the quotient
abbrev pub pid_and_name_rules : Rules
pid_and_name_rules =
    two_links stopping_names (depth 0 ∷ depth 1 ∷ [])
    (rule_of (and_if (depth 0) Ne (number 3) ∷ []) (by_pid 0 steep_pid ∷ []) [] None
    ∷ rule_of (or_if_name 2 Gt zero ∷ []) (set_to 1 one ∷ []) [] None ∷ [])

-- rule 0 uses the square, and rule 1 the quotient
abbrev pub two_name_rules : Rules
two_name_rules =
    two_links stopping_names (depth 0 ∷ depth 1 ∷ [])
    (rule_of (or_if_name 3 Gt zero ∷ []) (set_to 0 one ∷ []) [] None
    ∷ rule_of (or_if_name 2 Gt zero ∷ []) (set_to 1 one ∷ []) [] None ∷ [])
