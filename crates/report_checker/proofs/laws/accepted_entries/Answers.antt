-- The laws of accepted entries.
use Rattle.report_checker.proofs.PublicLaws.{accepted_entries-holds, accepted_entries-refuted}
use Rattle.report_checker.proofs.laws.accepted_entries.Goals as goal

pub returns-clause-holds : goal.returns-clause-holds
returns-clause-holds c = accepted_entries-holds

pub returns-clause-refuted : goal.returns-clause-refuted
returns-clause-refuted c = accepted_entries-refuted
