use Rattle.std.proofs.Common.{◌≡◌, take, length}
use Rattle.trace_replay.specs.internal.Moving.{settings_at}
use Rattle.trace_replay.proofs.settings.copy_settings.Given as goal

abbrev pub invariant-loop-at : goal.invariant-loop-at
invariant-loop-at l = record {
  settings : take l.at l.settings ≡ settings_at l.links (take l.at l.places);
  long : length l.settings ≡ length l.places;
}
