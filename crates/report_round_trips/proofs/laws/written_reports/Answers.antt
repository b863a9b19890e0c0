use Rattle.report_round_trips.proofs.PublicLaws.{written_reports-accepted}
use Rattle.report_round_trips.proofs.PublicLaws.{written_reports-completion}
use Rattle.report_round_trips.proofs.PublicLaws.{written_reports-verified}
use Rattle.report_round_trips.proofs.laws.written_reports.Goals as goal

pub returns-clause-accepted : goal.returns-clause-accepted
returns-clause-accepted c = written_reports-accepted

pub returns-clause-verified : goal.returns-clause-verified
returns-clause-verified c = written_reports-verified

pub returns-clause-completion : goal.returns-clause-completion
returns-clause-completion c = written_reports-completion
