use Rattle.std.proofs.Common.{◌≡◌, ◌++◌, drop, length}
use Rattle.rule_meaning.specs.History.{stayed}
use Rattle.rule_meaning.specs.Replay.{first_standings}
use Rattle.trace_replay.proofs.fresh.first_links.Given as goal

abbrev pub invariant-loop-setting : goal.invariant-loop-setting
invariant-loop-setting l = record {
  standings : stayed l.links.items ++ first_standings (drop l.setting-index l.fn.initial) ≡ first_standings l.fn.initial;
  each : length l.links.items ≡ l.setting-index;
}
