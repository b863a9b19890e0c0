use Rattle.verdict_search.proofs.PublicLaws.{verdicts-event, verdicts-holds, verdicts-in_ranges}
use Rattle.verdict_search.proofs.laws.verdicts.Goals as goal

pub returns-clause-holds : goal.returns-clause-holds
returns-clause-holds c = verdicts-holds

pub returns-clause-event : goal.returns-clause-event
returns-clause-event c = verdicts-event

pub returns-clause-in_ranges : goal.returns-clause-in_ranges
returns-clause-in_ranges c = verdicts-in_ranges
