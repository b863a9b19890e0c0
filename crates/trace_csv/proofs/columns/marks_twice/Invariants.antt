use Rattle.std.proofs.Common.{◌≡◌, drop, length}
use Rattle.trace_csv.specs.Columns.{has_duplicate}
use Rattle.trace_csv.specs.internal.Marking.{marks}
use Rattle.trace_csv.proofs.columns.marks_twice.Given as goal

abbrev pub invariant-loop-at : goal.invariant-loop-at
invariant-loop-at l = record {
  twice : l.twice ≡ has_duplicate (drop l.at l.columns);
  given : l.given ≡ marks (drop l.at l.columns) (length l.fn.given);
  long : length l.given ≡ length l.fn.given;
}
