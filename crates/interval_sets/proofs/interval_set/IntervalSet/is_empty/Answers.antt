use Rattle.interval_sets.proofs.Equality.{empty_members}
use Rattle.interval_sets.proofs.interval_set.IntervalSet.is_empty.Goals as goal

pub returns : goal.returns
returns c = record {
  value = empty_members c.pieces.result.now c.args.self.now c.is_empty.result c.pieces.ensures.value c.pieces.ensures.normal c.is_empty.ensures;
}
