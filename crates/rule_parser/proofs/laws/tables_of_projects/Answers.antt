use Rattle.rule_parser.proofs.TablesHeld.{tables_held}
use Rattle.rule_parser.proofs.laws.tables_of_projects.Goals as goal

pub returns : goal.returns
returns c = record { held = tables_held }
