use Rattle.interval_sets.proofs.SetResults.{intersection_made}
use Rattle.interval_sets.proofs.interval_set.IntervalSet.meet.Goals as goal

pub returns-clause-value : goal.returns-clause-value
returns-clause-value c =
    intersection_made c.deref.result.now c.self.inside.pieces.items c.deref-2.result.now c.o.inside.pieces.items c.args.self.now c.args.o.now c.in_ok-combine.field-0.items
    c.deref.ensures.value c.self.view_is c.deref-2.ensures.value c.o.view_is c.self.invariant c.o.invariant
    c.in_ok-combine.ensures.normal c.in_ok-combine.ensures.members
