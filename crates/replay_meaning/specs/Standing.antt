-- For which rows what is kept stands. Rows have the newest first.
use Rattle.std.specs.Prelude.{◌≡◌, ℕ, List, ◌∷◌, length, ℤ}
use Rattle.rule_types.specs.declared.row.Row.{Row}
use Rattle.rule_types.specs.declared.rules.Rules.{Rules}
use Rattle.rule_types.specs.Reading.{pid_count}
use Rattle.rule_types.specs.Tables.{TableSet, HoldsTables}
use Rattle.rule_types.specs.WellFormed.{WellFormed}
use Rattle.rule_meaning.specs.History.{memory_by, last_due}
use Rattle.rule_meaning.specs.Memories.{memory_of}
use Rattle.rule_meaning.specs.Reading.{Choice, ActsOnLinks}
use Rattle.rule_meaning.specs.Replay.{replayed_by, standings_now_by, last_switches_by, start_of}
use Rattle.rule_meaning.specs.Replay.{start_or, last_moment, first_stop_by, RowsFit}
use Rattle.replay_meaning.specs.Kept.{Kept}

-- What is kept is that of these rows: the standings, the switches, the memories, the start of the
-- next row, the last moment, the moment of the last row that was due, and the first stop.
pub record StandsFor (choice : Choice) (x : Rules) (tables : TableSet) (k : Kept) (rows : List Row)
    : Type 0 where
  pub standings : k.standings ≡ standings_now_by choice x tables (replayed_by choice x tables rows)
  pub switches : k.switches ≡ last_switches_by choice x tables (replayed_by choice x tables rows)
  pub memories : (number : ℕ)
      → memory_of k.memories number
      ≡ memory_by choice x tables (replayed_by choice x tables rows) number
  pub memories_long : length k.memories ≡ pid_count x.rules
  pub start : (moment : ℤ)
      → start_or k.start moment ≡ start_of x.start (replayed_by choice x tables rows) moment
  pub last : k.last ≡ last_moment (replayed_by choice x tables rows)
  pub due : k.due ≡ last_due x.rule_step (replayed_by choice x tables rows)
  pub stop : k.stop ≡ first_stop_by choice x tables (replayed_by choice x tables rows)

-- rules that a replay can read by a choice, with tables that they name
pub record CanReplay (choice : Choice) (x : Rules) (tables : TableSet) : Type 0 where
  pub formed : WellFormed x
  pub acts : ActsOnLinks x choice
  pub held : HoldsTables tables x.rules

-- a row can follow what is kept: that stands for rows which this one can follow
pub record CanFollow (choice : Choice) (x : Rules) (tables : TableSet) (k : Kept) (row : Row)
    : Type 0 where
  pub rules : CanReplay choice x tables
  pub rows : List Row
  pub stands : StandsFor choice x tables k rows
  pub fits : RowsFit x (row ∷ rows)
