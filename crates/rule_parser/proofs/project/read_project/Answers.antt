use Rattle.std.proofs.Common.{sym, ◌∙◌}
use Rattle.std.specs.Prelude.{reverse}
use Rattle.rule_parser.proofs.TablesHeld.{read_holds}
use Rattle.rule_parser.proofs.project.read_project.Goals as goal

pub returns-in-Ok-Ok-clause-tables : goal.returns-in-Ok-Ok-clause-tables
returns-in-Ok-Ok-clause-tables c = λ earlier r.
    read_holds (reverse earlier) c.in-Ok-Ok.project (sym c.in-Ok-Ok.field-0-is ∙ c.in-Ok-Ok.ensures.file earlier r)
