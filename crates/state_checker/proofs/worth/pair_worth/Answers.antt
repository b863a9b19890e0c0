use Rattle.state_checker.proofs.SettledSteps.{table_held}
use Rattle.state_checker.proofs.worth.pair_worth.Goals as goal

pub worth-requires-clause-table : goal.worth-requires-clause-table
worth-requires-clause-table c =
    table_held c.args.tables.now c.args.rules.now.rules c.args.at.now c.in-Some.action.now c.requires.tables c.in-Some.ensures.value
