-- The value of a table by the place of x among its points.
use Rattle.std.specs.Prelude.{if◌then◌else◌, Result, Ok, List, [], ◌∷◌}
use Rattle.exact_fraction.specs.Number.{Rational, zero}
use Rattle.exact_fraction.specs.Order.{less}
use Rattle.exact_fraction.specs.declared.error.Overflow.{Overflow}
use Rattle.rule_types.specs.declared.table.Point.{Point}
use Rattle.rule_meaning.specs.StraightLines.{between, line_from}

-- the value at an x past the first of two points and at most at the second
abbrev pub next_value : Point → Point → Rational → Result Rational Overflow
next_value p q x = if less x q.x then between p q x else Ok q.y

-- the value at x before it is clamped
unfoldable pub value_from : List Point → Rational → Result Rational Overflow
value_from [] x = Ok zero
value_from (p ∷ more) x = line_from p more x
