use Rattle.std.proofs.Common.{◌≡◌, ◌+◌, ◌*◌, ◌≤◌, [], map, length}
use Rattle.byte_edge.specs.Lines.{lines, capped}
use Rattle.rule_meaning.specs.History.{controlled_settings}
use Rattle.trace_replay.specs.Progress.{kept_of, IsProgressOf}
use Rattle.trace_tally.specs.TraceRows.{rows_from}
use Rattle.trace_tally.specs.Tallies.{tallied}
use Rattle.trace_tally.specs.internal.Taking.{Taken}
use Rattle.trace_tally.proofs.rows.replay_rows.Given as goal

-- the rows of the lines so far were taken
abbrev pub invariant-lines : goal.invariant-lines
invariant-lines g l = record {
  reads : g.R.Reads.is_ready l.replay.readings;
  made_for : g.R.Reads.made_for l.replay.readings ≡ l.replay.rules.now;
  progress : IsProgressOf l.replay.rules.now l.replay.progress;
  inputs : length l.inputs ≡ l.header.inputs;
  before : l.before ≡ controlled_settings l.replay.rules.now (kept_of l.replay.progress).standings;
  few : l.number + length l.rest ≤ 2 + length l.lines;
  most : l.switches ≤ l.number * length l.before;
  taken : Taken (g.R.Reads.choice l.replay.readings) l.replay.rules.now
      (g.R.Reads.held l.replay.readings) l.header (kept_of l.replay.progress)
      l.switches l.number (map (capped 65536) (lines l.rest))
      (tallied (g.R.Reads.choice l.initial.replay.readings) l.initial.replay.rules.now
      (g.R.Reads.held l.initial.replay.readings)
      (rows_from (g.R.Reads.choice l.initial.replay.readings) l.initial.replay.rules.now
      (g.R.Reads.held l.initial.replay.readings) l.header [] 2
      (map (capped 65536) (lines l.lines))));
}

abbrev pub decreases-lines : goal.decreases-lines
decreases-lines g l = length l.rest
