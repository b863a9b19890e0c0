use Rattle.std.proofs.Common.{◌≡◌, ◌++◌, take, drop, length}
use Rattle.rule_meaning.specs.History.{stayed}
use Rattle.rule_meaning.specs.Replay.{links_at}
use Rattle.trace_replay.proofs.timers.set_timers.Given as goal

abbrev pub invariant-loop-at : goal.invariant-loop-at
invariant-loop-at l = record {
  links : l.links ≡ take l.at l.fn.links ++ links_at l.start l.moment (stayed (drop l.at l.fn.links)) (drop l.at l.switches);
  long : length l.links ≡ length l.fn.links;
}
