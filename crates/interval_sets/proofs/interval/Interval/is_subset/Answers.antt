use Rattle.interval_sets.proofs.Subset.{subset_test}
use Rattle.interval_sets.proofs.interval.Interval.is_subset.Goals as goal

pub returns : goal.returns
returns c = record { value = rw c.lies_between.ensures.value (subset_test c.args.self.now c.args.other.now) }
