-- Which boxes cover a cell.
use Rattle.std.specs.Prelude.{◌≡◌, Option, Some, None, ℤ, IsTrue}
use Rattle.std.specs.List.{AllZip}
use Rattle.exact_fraction.specs.Number.{Rational}
use Rattle.interval_sets.specs.declared.interval.Interval.{Interval}
use Rattle.interval_sets.specs.Intervals.{lies_in}
use Rattle.rule_types.specs.declared.key.Key.{Key}
use Rattle.verdict_meaning.specs.declared.cell.Cell.{Cell}
use Rattle.verdict_meaning.specs.Boxes.{IsMomentIn}

-- each number of a piece is one of an interval
abbrev pub IsPartOf : Interval → Interval → Type 0
IsPartOf piece interval = (q : Rational) → IsTrue (lies_in piece q) → IsTrue (lies_in interval q)

-- an entry of a box has the key of an entry of a cell, and the cell's piece is part of its interval
abbrev pub CoversEntry : Key × Interval → Key × Interval → Type 0
CoversEntry entry piece = (entry.0 ≡ piece.0) × IsPartOf piece.1 entry.1

-- where a box has moments, the cell has moments too, of which the first is one of the box's
abbrev pub CoversMoments : Option (ℤ × ℤ) → Option (ℤ × ℤ) → Type 0
CoversMoments None piece = Unit {0}
CoversMoments (Some span) None = ⊥
CoversMoments (Some span) (Some piece) = IsMomentIn span piece.0

-- A box covers a cell: they have the same keys in the same order, each piece of the cell is part of
-- the box's interval of the key, and the first moment of the cell is one of the box's.
pub record Covers (box cell : Cell) : Type 0 where
  pub keys : AllZip CoversEntry box.keys cell.keys
  pub moments : CoversMoments box.moments cell.moments
