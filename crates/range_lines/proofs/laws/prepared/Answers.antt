-- The laws of prepared rules.
use Rattle.range_lines.proofs.PublicLaws.{prepared-well_formed, prepared-tables}
use Rattle.range_lines.proofs.laws.prepared.Goals as goal

pub returns-clause-well_formed : goal.returns-clause-well_formed
returns-clause-well_formed c = prepared-well_formed

pub returns-clause-tables : goal.returns-clause-tables
returns-clause-tables c = prepared-tables
