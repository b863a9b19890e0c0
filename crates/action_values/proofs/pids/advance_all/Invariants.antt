use Rattle.std.proofs.Common.{◌≡◌, ℕ, drop}
use Rattle.rule_meaning.specs.History.{memory_listed}
use Rattle.rule_meaning.specs.Memories.{memory_of}
use Rattle.rule_meaning.specs.Reading.{pids_stop}
use Rattle.action_values.proofs.pids.advance_all.Given as goal

abbrev pub invariant-loop-i : goal.invariant-loop-i
invariant-loop-i l = record {
  stop : l.stop ≡ pids_stop l.rules l.state (memory_of l.before) (drop l.i l.pairs);
  memories : (number : ℕ) → memory_of l.after number ≡ memory_listed l.rules l.state (memory_of l.before) number (drop l.i l.pairs);
}
