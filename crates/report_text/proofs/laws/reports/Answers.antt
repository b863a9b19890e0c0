-- The law of reports.
use Rattle.report_text.proofs.PublicLaws.{reports-back}
use Rattle.report_text.proofs.laws.reports.Goals as goal

pub returns : goal.returns
returns c = record { back = reports-back }
