-- The law of entries.
use Rattle.report_text.proofs.PublicLaws.{entries-back}
use Rattle.report_text.proofs.laws.entries.Goals as goal

pub returns : goal.returns
returns c = record { back = entries-back }
