-- Pieces that a number does not cut, and the piece of the setting that a limit speaks of.
use Rattle.std.specs.Prelude.{◌≡◌, ◌⊎◌, ℕ, Some, IsTrue}
use Rattle.exact_fraction.specs.Number.{Rational}
use Rattle.exact_fraction.specs.Order.{◌<ℚ◌, ◌=ℚ◌}
use Rattle.interval_sets.specs.declared.interval.Interval.{Interval}
use Rattle.interval_sets.specs.Intervals.{lies_in}
use Rattle.verdict_meaning.specs.declared.cell.Cell.{Cell}
use Rattle.verdict_meaning.specs.Questions.{setting_key}
use Rattle.verdict_meaning.specs.Reaches.{piece_in}

-- all members of a piece are below a number, are this number, or are above it
abbrev pub AllBelow : Rational → Interval → Type 0
AllBelow cut piece = (q : Rational) → IsTrue (lies_in piece q) → q <ℚ cut

abbrev pub AllEqual : Rational → Interval → Type 0
AllEqual cut piece = (q : Rational) → IsTrue (lies_in piece q) → q =ℚ cut

abbrev pub AllAbove : Rational → Interval → Type 0
AllAbove cut piece = (q : Rational) → IsTrue (lies_in piece q) → cut <ℚ q

-- a number does not cut a piece: the piece has no members on two sides of it
abbrev pub IsUncutBy : Rational → Interval → Type 0
IsUncutBy cut piece = AllBelow cut piece ⊎ AllEqual cut piece ⊎ AllAbove cut piece

-- A cell has a piece of the SETTING of a link, which neither number of a limit cuts.
pub record HasUncutSetting (cell : Cell) (link : ℕ) (lo hi : Rational) : Type 0 where
  pub piece : Interval
  pub piece_is : piece_in (setting_key link) cell.keys ≡ Some piece
  pub low : IsUncutBy lo piece
  pub high : IsUncutBy hi piece
