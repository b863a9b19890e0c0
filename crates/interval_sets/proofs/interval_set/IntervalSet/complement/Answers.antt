use Rattle.interval_sets.proofs.SetResults.{complement_made}
use Rattle.interval_sets.proofs.interval_set.IntervalSet.complement.Goals as goal

pub returns-clause-value : goal.returns-clause-value
returns-clause-value c =
    complement_made c.deref.result.now c.self.inside.pieces.items c.args.self.now c.in_ok-combine.field-0.items
    c.deref.ensures.value c.self.view_is c.self.invariant c.in_ok-combine.ensures.normal c.in_ok-combine.ensures.members
