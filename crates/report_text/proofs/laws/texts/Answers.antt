-- The law of texts.
use Rattle.report_text.proofs.PublicLaws.{texts-cut, texts-report}
use Rattle.report_text.proofs.laws.texts.Goals as goal

pub returns : goal.returns
returns c = record { cut = texts-cut; report = texts-report }
