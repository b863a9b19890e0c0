use Rattle.std.proofs.Common.{◌≡◌, ◌+◌, ◌≤◌, drop, length}
use Rattle.trace_tally.specs.Tallies.{changes}
use Rattle.trace_tally.proofs.rows.changes.Given as goal

abbrev pub invariant-loop-at : goal.invariant-loop-at
invariant-loop-at l = record {
  count : l.count ≡ changes (drop l.at l.before) (drop l.at l.now);
  most : l.count + l.at ≤ length l.before;
}
