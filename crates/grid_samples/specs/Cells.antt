-- The cells of which a sample is one state.
use Rattle.std.specs.Prelude.{◌≡◌, map, All, Contains, IsTrue}
use Rattle.exact_fraction.specs.Number.{Rational, zero}
use Rattle.exact_fraction.specs.Order.{◌≤ℚ◌}
use Rattle.interval_sets.specs.declared.interval.Interval.{Interval}
use Rattle.interval_sets.specs.Intervals.{has_member, lies_in}
use Rattle.rule_types.specs.declared.key.Key.{Key}
use Rattle.rule_types.specs.declared.key.Key.TheVariants.{Object, Clock}
use Rattle.rule_types.specs.declared.rules.Rules.{Rules}
use Rattle.rule_types.specs.Keys.{is_link_state}
use Rattle.verdict_meaning.specs.declared.cell.Cell.{Cell}
use Rattle.verdict_meaning.specs.declared.question.Question.{Question}
use Rattle.verdict_meaning.specs.declared.question.Question.TheVariants.{Conflict, Dead, Limit}
use Rattle.verdict_meaning.specs.declared.ranges.Ranges.{Ranges}
use Rattle.verdict_meaning.specs.FitRanges.{AreEnds}
use Rattle.verdict_meaning.specs.Questions.{grid_keys}
use Rattle.grid_samples.specs.Covers.{Covers}

-- some number lies in the piece of a key
abbrev pub IsNotEmpty : Key × Interval → Type 0
IsNotEmpty entry = IsTrue (has_member entry.1.low entry.1.high)

-- no number below 0 lies in the piece of a key that is read off a link's setting and timer
abbrev pub IsNotBelowZero : Key → Interval → Type 0
IsNotBelowZero (Object object attribute) piece =
    IsTrue (is_link_state attribute) → (q : Rational) → IsTrue (lies_in piece q) → zero ≤ℚ q
IsNotBelowZero (Clock attribute) piece = Unit {0}

-- the intervals of a cell are pieces: none is empty, and settings and timers are at least 0
pub record HasPieces (cell : Cell) : Type 0 where
  pub not_empty : All IsNotEmpty cell.keys
  pub not_below_zero : All (λ entry. IsNotBelowZero entry.0 entry.1) cell.keys

-- the keys of a cell are those of a question's grid, in key order
pub record HasGridKeys (x : Rules) (question : Question) (cell : Cell) : Type 0 where
  pub keys : map (λ entry. entry.0) cell.keys ≡ grid_keys x question

-- the link of a limit is one of the tracked links
abbrev pub TracksLimit : Rules → Question → Type 0
TracksLimit x (Conflict first second link) = Unit {0}
TracksLimit x (Dead number) = Unit {0}
TracksLimit x (Limit link lo hi) = Contains x.tracked link

-- A cell is one of a question's grid over a box: it has the grid's keys, its intervals are pieces,
-- and the box covers it.
pub record IsGridCell (x : Rules) (question : Question) (box cell : Cell) : Type 0 where
  pub keys : HasGridKeys x question cell
  pub pieces : HasPieces cell
  pub covered : Covers box cell

-- the range of each key has a first and a last number, and the settings and timers in it are at
-- least 0
pub record HasClosedRanges (ranges : Ranges) : Type 0 where
  pub ends : All (λ entry. AreEnds entry.1.low entry.1.high) ranges.keys
  pub not_below_zero : All (λ entry. IsNotBelowZero entry.0 entry.1) ranges.keys
