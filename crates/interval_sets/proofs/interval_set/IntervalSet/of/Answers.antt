use Rattle.interval_sets.proofs.SetResults.{set_made_members, set_made_normal}
use Rattle.interval_sets.proofs.interval_set.IntervalSet.of.Goals as goal

pub invariant_of-result : goal.invariant_of-result
invariant_of-result c =
    set_made_normal c.args.rel c.args.c c.in_ok-pieces_of_relation.field-0.items c.in_ok-pieces_of_relation.ensures.value c.den-denominator.ensures.held

pub returns-clause-members : goal.returns-clause-members
returns-clause-members c =
    set_made_members c.args.rel c.args.c c.in_ok-pieces_of_relation.field-0.items c.in_ok-pieces_of_relation.ensures.value

pub returns-clause-normal : goal.returns-clause-normal
returns-clause-normal c =
    set_made_normal c.args.rel c.args.c c.in_ok-pieces_of_relation.field-0.items c.in_ok-pieces_of_relation.ensures.value c.den-denominator.ensures.held
