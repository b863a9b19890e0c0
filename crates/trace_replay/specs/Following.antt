-- Which rows can follow what a replay keeps.
use Rattle.std.specs.Prelude.{◌≡◌, Option, Some, List, length, ℤ, ◌≤ℤ◌, ◌<ℤ◌}
use Rattle.exact_fraction.specs.Moments.{IsMoment}
use Rattle.rule_types.specs.declared.row.Row.{Row}
use Rattle.rule_types.specs.declared.rules.Rules.{Rules}
use Rattle.rule_types.specs.Tables.{TableSet}
use Rattle.rule_meaning.specs.Reading.{Choice}
use Rattle.rule_meaning.specs.Replay.{RowsFit}
use Rattle.replay_meaning.specs.Kept.{Kept}
use Rattle.replay_meaning.specs.Standing.{StandsFor, CanReplay}

-- what is kept stands for some rows that a replay can take
pub record StandsForRows (choice : Choice) (x : Rules) (tables : TableSet) (k : Kept) : Type 0 where
  pub rules : CanReplay choice x tables
  pub rows : List Row
  pub stands : StandsFor choice x tables k rows
  pub fits : RowsFit x rows

-- a row that can come after one at a moment, if there was one: it has one input for each input key,
-- and its moment lies in the years 1 to 9999, is later and not before the start of the rules
pub record IsNextRow (x : Rules) (last : Option ℤ) (row : Row) : Type 0 where
  pub inputs : length row.inputs ≡ length x.input_keys
  pub moment : IsMoment row.moment
  pub started : (start : ℤ) → x.start ≡ Some start → start ≤ℤ row.moment
  pub later : (before : ℤ) → last ≡ Some before → before <ℤ row.moment
