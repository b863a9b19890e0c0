-- Lists of cuts: the numbers at which a reading by tables looks.
use Rattle.std.specs.Prelude.{List, length}
use Rattle.std.specs.List.{AllAdjacentBelow}
use Rattle.exact_fraction.specs.Number.{Rational}
use Rattle.exact_fraction.specs.Order.{◌<ℚ◌}

-- the cuts rise strictly: each is below the next
abbrev pub IsRising : List Rational → Type 0
IsRising cuts = AllAdjacentBelow (λ p q. p <ℚ q) cuts (length cuts)
