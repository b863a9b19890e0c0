use Rattle.action_values.proofs.PidSteps.{ready_is}
use Rattle.action_values.proofs.order.action_worth.Goals as goal

pub worth-requires-clause-ready : goal.worth-requires-clause-ready
worth-requires-clause-ready c =
    ready_is c.args.rules.now.rules c.args.tables.now _ c.args.at.now c.in-Some.action.now c.requires.ready c.in-Some.ensures.value
