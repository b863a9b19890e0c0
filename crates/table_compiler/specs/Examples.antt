-- Small rules that worked examples speak of, and their rows.
use Rattle.std.specs.Prelude.{ℕ, true, false, Some, None, List, [], ◌∷◌}
use Rattle.exact_fraction.specs.Number.{zero, one}
use Rattle.exact_fraction.specs.declared.relation.Relation.TheVariants.{Eq, Ne, Lt, Le, Gt}
use Rattle.interval_sets.specs.declared.interval.Bound.TheVariants as end
use Rattle.interval_sets.specs.declared.interval.Interval.{Interval}
use Rattle.rule_types.specs.declared.action.Action.{Action}
use Rattle.rule_types.specs.declared.action.Branch.{Branch}
use Rattle.rule_types.specs.declared.condition.Condition.{Condition}
use Rattle.rule_types.specs.declared.condition.Side.TheVariants as side
use Rattle.rule_types.specs.declared.condition.Right.TheVariants as right
use Rattle.rule_types.specs.declared.key.ClockAttr.TheVariants.{ClockTime}
use Rattle.rule_types.specs.declared.key.Key.TheVariants.{Clock}
use Rattle.rule_types.specs.declared.rule.Rule.{Rule}
use Rattle.rule_types.specs.declared.rules.Rules.{Rules}
use Rattle.rule_meaning.specs.Examples.{number, decimal, depth, and_if, or_if, or_if_name}
use Rattle.rule_meaning.specs.Examples.{half_step_if, set_to, rule_of, plain_rules}
use Rattle.table_compiler.specs.declared.part.Part.{Part}
use Rattle.table_compiler.specs.declared.part.Part.TheVariants.{Column}
use Rattle.table_compiler.specs.declared.table.Clause.{Clause}
use Rattle.table_compiler.specs.declared.table.TableRow.{TableRow}

-- ---- intervals of whole numbers: above one, to one, below one, between two that are left out
abbrev pub above : ℕ → Interval
above n = record { low = end.Bound (number n) true; high = end.NoBound }

abbrev pub up_to : ℕ → Interval
up_to n = record { low = end.NoBound; high = end.Bound (number n) false }

abbrev pub below : ℕ → Interval
below n = record { low = end.NoBound; high = end.Bound (number n) true }

abbrev pub between : ℕ → ℕ → Interval
between m n = record { low = end.Bound (number m) true; high = end.Bound (number n) true }

-- ---- clauses and rows
abbrev pub depth_in : ℕ → List Interval → Part
depth_in node set = Column (side.Key (depth node)) set

abbrev pub clause : List Part → Clause
clause parts = record { parts = parts }

abbrev pub when_row : ℕ → Branch → ℕ → List Clause → TableRow
when_row rule branch action clauses =
    record {
      action = record { rule = rule; branch = branch; action = action };
      negated = false;
      clauses = clauses;
    }

abbrev pub unless_row : ℕ → Branch → ℕ → List Clause → TableRow
unless_row rule branch action clauses =
    record {
      action = record { rule = rule; branch = branch; action = action };
      negated = true;
      clauses = clauses;
    }

-- ---- rules on pump 0, which they switch on and off
abbrev pub on : List Action
on = set_to 0 one ∷ []

abbrev pub off : List Action
off = set_to 0 zero ∷ []

abbrev pub switch_on : List Condition → Rule
switch_on conditions = rule_of conditions on [] None

abbrev pub switch : List Condition → Rule
switch conditions = rule_of conditions on off None

-- two pumps: the first is switched on above 5 and the second above 7, and both off up to 3
abbrev pub two_pumps : Rules
two_pumps =
    record (plain_rules (depth 0 ∷ [])
    (switch_on (and_if (depth 0) Gt (number 5) ∷ [])
    ∷ rule_of (and_if (depth 0) Gt (number 7) ∷ []) (set_to 1 one ∷ []) [] None
    ∷ rule_of (and_if (depth 0) Le (number 3) ∷ []) (set_to 0 zero ∷ set_to 1 zero ∷ []) [] None
    ∷ []))
    { controlled = 0 ∷ 1 ∷ [] }

-- on above 5, and on above 3
abbrev pub overlapping : List Rule
overlapping =
    switch_on (and_if (depth 0) Gt (number 5) ∷ [])
    ∷ rule_of (and_if (depth 0) Gt (number 3) ∷ []) off [] None ∷ []

-- above 2 or below 1, and not 3
abbrev pub met_twice : List Rule
met_twice =
    switch (and_if (depth 0) Gt (number 2) ∷ or_if (depth 0) Lt (number 1)
    ∷ and_if (depth 0) Ne (number 3) ∷ []) ∷ []

-- above 5 and below 3, which is never, and a rule behind it
abbrev pub never : List Condition
never = and_if (depth 0) Gt (number 5) ∷ and_if (depth 0) Lt (number 3) ∷ []

abbrev pub never_and_more : List Rule
never_and_more = switch never ∷ switch_on (and_if (depth 0) Gt (number 3) ∷ []) ∷ []

-- at a time of day, which is read within half a step
abbrev pub at_night : List Rule
at_night = switch (half_step_if (Clock ClockTime) Eq (decimal 91 4) ∷ []) ∷ []

-- a depth above 2 or above another depth
abbrev pub or_above : ℕ → ℕ → Condition
or_above node other =
    record {
      left = side.Key (depth node);
      rel = Gt;
      right = right.Key (depth other);
      half_step = false;
      joined_by_and = false;
    }

abbrev pub against_key : List Rule
against_key = switch_on (and_if (depth 0) Gt (number 2) ∷ or_above 0 1 ∷ []) ∷ []

-- above 1, below 9 and not 5
abbrev pub two_pieces : List Rule
two_pieces =
    switch_on (and_if (depth 0) Gt (number 1) ∷ and_if (depth 0) Lt (number 9)
    ∷ and_if (depth 0) Ne (number 5) ∷ []) ∷ []

-- one group on an expression, two depths and a depth against a depth, out of order
abbrev pub out_of_order : List Rule
out_of_order =
    switch_on (and_if (depth 1) Gt (number 2) ∷ or_above 1 0 ∷ or_if_name 3 Gt (number 4)
    ∷ or_if (depth 0) Gt (number 1) ∷ or_if (depth 1) Eq (number 2) ∷ []) ∷ []

-- a clause of two parts beside one of a single part on one of their columns
abbrev pub not_met : List Rule
not_met =
    switch_on (and_if (depth 0) Gt (number 1) ∷ or_if (depth 1) Gt (number 2)
    ∷ and_if (depth 0) Lt (number 5) ∷ []) ∷ []

-- three rules of which the second and the third have a priority, the same
abbrev pub ranked_rules : List Rule
ranked_rules =
    switch_on (and_if (depth 0) Gt (number 1) ∷ [])
    ∷ rule_of (and_if (depth 0) Gt (number 2) ∷ []) on [] (Some one)
    ∷ rule_of (and_if (depth 0) Gt (number 3) ∷ []) off [] (Some one) ∷ []

-- a branch that acts on the pump twice, behind an action on another link
abbrev pub twice : List Rule
twice =
    rule_of (and_if (depth 0) Gt (number 1) ∷ [])
    (set_to 1 one ∷ set_to 0 one ∷ set_to 0 zero ∷ []) [] None ∷ []
