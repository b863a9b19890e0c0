use Rattle.curves_series.proofs.PublicLaws.{tables_of_lines-names, tables_of_lines-lines}
use Rattle.curves_series.proofs.laws.tables_of_lines.Goals as goal

pub returns-clause-names : goal.returns-clause-names
returns-clause-names c = tables_of_lines-names

pub returns-clause-lines : goal.returns-clause-lines
returns-clause-lines c = tables_of_lines-lines
