-- Points that rise, behind an x before them.
use Rattle.std.specs.Prelude.{Option, None, Some, List, [], ◌∷◌, ⊤}
use Rattle.exact_fraction.specs.Number.{Rational}
use Rattle.exact_fraction.specs.Order.{◌<ℚ◌}
use Rattle.rule_types.specs.declared.table.Point.{Point}

-- x is above the x before, where that is known
abbrev pub IsAbove : Option Rational → Rational → Type 0
IsAbove None x = ⊤
IsAbove (Some before) x = before <ℚ x

-- the points rise, and the first is above the x before
abbrev pub IsRising : Option Rational → List Point → Type 0
IsRising before [] = ⊤
IsRising before (p ∷ later) = IsAbove before p.x × IsRising (Some p.x) later
