use Rattle.std.proofs.Common.{◌+◌, ◌-◌, ◌*◌, ◌^◌, ◌≤◌, length}
use Rattle.interval_sets.specs.Cuts.{IsRising}
use Rattle.table_plan.specs.Pieces.{piece}
use Rattle.table_plan.proofs.piece_search.piece_of.Given as goal

abbrev pub invariant-loop-low : goal.invariant-loop-low
invariant-loop-low g l = record {
  within : l.low ≤ l.high;
  inside : l.high ≤ length l.cuts;
  rising : IsRising l.cuts;
  least : 2 * l.low ≤ piece l.cuts l.x;
  most : piece l.cuts l.x ≤ 2 * l.high;
  counted : l.fn.steps ≤ l.steps;
  spent : l.steps + (l.high - l.low) ≤ l.fn.steps + length l.cuts;
  narrow : 2 ^ (l.steps - l.fn.steps) * (l.high - l.low) ≤ length l.cuts;
  few : 2 ^ (l.steps - l.fn.steps) ≤ 2 * length l.cuts + 1;
}

abbrev pub decreases-loop-low : goal.decreases-loop-low
decreases-loop-low g l = l.high - l.low
