use Rattle.control_lines.proofs.PublicLaws.{faults-sooner, faults-both}
use Rattle.control_lines.proofs.laws.faults.Goals as goal

pub returns-clause-sooner : goal.returns-clause-sooner
returns-clause-sooner c c' = faults-sooner

pub returns-clause-both : goal.returns-clause-both
returns-clause-both c c' = faults-both
