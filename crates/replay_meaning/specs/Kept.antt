-- What a replay keeps from row to row, and what one more row makes of it.
use Rattle.std.specs.Prelude.{Bool, if◌then◌else◌, Option, Some, None, Result, Ok}
use Rattle.std.specs.Prelude.{List, [], replicate, ℤ, pos, ◌-ℤ◌}
use Rattle.exact_fraction.specs.Number.{Rational, whole}
use Rattle.exact_fraction.specs.Operations.{quotient_of}
use Rattle.rule_types.specs.declared.action.Order.{Order}
use Rattle.rule_types.specs.declared.action.PidMemory.{PidMemory}
use Rattle.rule_types.specs.declared.row.Row.{Row}
use Rattle.rule_types.specs.declared.rules.Rules.{Rules}
use Rattle.rule_types.specs.declared.state.State.{State}
use Rattle.rule_types.specs.declared.stop.Stop.{Stop}
use Rattle.rule_types.specs.Reading.{pid_count}
use Rattle.rule_types.specs.Tables.{TableSet}
use Rattle.rule_meaning.specs.Clock.{hours_of}
use Rattle.rule_meaning.specs.History.{Standing, is_due_after, standings_after}
use Rattle.rule_meaning.specs.Memories.{memory_of, memories_after}
use Rattle.rule_meaning.specs.Pid.{fresh}
use Rattle.rule_meaning.specs.Reading.{Choice, read_by}
use Rattle.rule_meaning.specs.Replay.{first_standings, switches_after, unswitched, start_or}
use Rattle.rule_meaning.specs.Replay.{step_since, links_at, stop_of}

-- What is kept: where each tracked link stands, the moment of its last switch, the memory of each
-- PID action by its number, the start if it is known, the moments of the last row and of the last
-- row that was due, and the stop if a row stopped.
pub record Kept : Type 0 where
  pub standings : List Standing
  pub switches : List (Option ℤ)
  pub memories : List PidMemory
  pub start : Option ℤ
  pub last : Option ℤ
  pub due : Option ℤ
  pub stop : Option Stop

-- what is kept before the first row
abbrev pub first_kept : Rules → Kept
first_kept x = record {
  standings = first_standings x.initial;
  switches = unswitched x.tracked;
  memories = replicate (pid_count x.rules) fresh;
  start = x.start;
  last = None;
  due = None;
  stop = None;
}

-- the start of a row
abbrev pub start_at : Kept → ℤ → ℤ
start_at k moment = start_or k.start moment

-- the state of a row
abbrev pub state_of : Rules → Kept → Row → State
state_of x k row = record {
  moment = row.moment;
  start = start_at k row.moment;
  step = step_since x.routing_step k.due row.moment;
  inputs = row.inputs;
  links = links_at (start_at k row.moment) row.moment k.standings k.switches;
}

-- whether a row is due
abbrev pub due_at : Rules → Kept → Row → Bool
due_at x k row = is_due_after x.rule_step k.due row.moment

-- the reading of a row: nothing where it is not due
abbrev pub reading_of : Choice → Rules → TableSet → Kept → Row → Result (List Order) Stop
reading_of choice x tables k row =
    if due_at x k row then read_by choice x tables (state_of x k row) (memory_of k.memories)
    else Ok []

-- the hours since the last row, and the routing step before the first one
abbrev pub gap_since : Rational → Option ℤ → ℤ → Rational
gap_since routing_step None moment = quotient_of routing_step (whole (pos 3600))
gap_since routing_step (Some last) moment = hours_of (moment -ℤ last)

-- where the tracked links stand after a row
abbrev pub standings_at : Choice → Rules → TableSet → Kept → Row → List Standing
standings_at choice x tables k row =
    standings_after x (gap_since x.routing_step k.last row.moment) (state_of x k row)
    (reading_of choice x tables k row)

-- what is kept after one more row, where no row stopped before
abbrev pub after_row : Choice → Rules → TableSet → Kept → Row → Kept
after_row choice x tables k row = record {
  standings = standings_at choice x tables k row;
  switches =
      switches_after row.moment (state_of x k row).links (standings_at choice x tables k row)
      k.switches;
  memories =
      if due_at x k row
      then memories_after x (state_of x k row) k.memories (reading_of choice x tables k row)
      else k.memories;
  start = Some (start_at k row.moment);
  last = Some row.moment;
  due = if due_at x k row then Some row.moment else k.due;
  stop = stop_of (reading_of choice x tables k row);
}

-- what is kept after one more row: once a row stopped, all stays
abbrev pub kept_by : Option Stop → Kept → Kept → Kept
kept_by None k after = after
kept_by (Some stop) k after = k

abbrev pub kept_after : Choice → Rules → TableSet → Kept → Row → Kept
kept_after choice x tables k row = kept_by k.stop k (after_row choice x tables k row)
