-- The law of accepted reports.
use Rattle.report_checker.proofs.PublicLaws.{accepted_reports-entries}
use Rattle.report_checker.proofs.laws.accepted_reports.Goals as goal

pub returns : goal.returns
returns c = record { entries = accepted_reports-entries }
