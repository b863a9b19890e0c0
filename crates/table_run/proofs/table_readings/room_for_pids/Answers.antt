use Rattle.std.proofs.Common.{arith}
use Rattle.std.specs.Vec.{vec_capacity}
use Rattle.table_run.proofs.PlannedSteps.{room_made}
use Rattle.table_run.proofs.table_readings.room_for_pids.Goals as goal

pub returns : goal.returns
returns c = record {
  room = room_made c.args.rules.now c.args.count (vec_capacity c.in_ok-pairs.pairs) c.requires.count (omega (arith, c.in_ok-pairs.ensures.capacity));
}
