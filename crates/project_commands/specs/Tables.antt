-- What `tables` comes to.
use Rattle.std.specs.Prelude.{ℕ, List, [], ◌∷◌, Option, Some}
use Rattle.command_outputs.specs.Outcomes.{Outcome, stage, written, input_file}
use Rattle.command_outputs.specs.declared.role.Role.{Role}
use Rattle.command_outputs.specs.declared.role.Role.TheVariants.{Input}
use Rattle.command_outputs.specs.declared.status.Status.TheVariants.{Done}
use Rattle.rule_parser.specs.declared.project.Project.{Project}
use Rattle.table_compiler.specs.Rows.{tables_of}
use Rattle.table_compiler.specs.TableText.{table_text}
use Rattle.input_check.specs.InputRefusals.{project_judged}

-- the text of the tables of the project's rules
abbrev pub tables_printed : Project → List ℕ
tables_printed p = table_text p.rules p.objects (tables_of p.rules)

abbrev pub tables_roles : List Role
tables_roles = Input ∷ []

-- what `tables IN` comes to, over what is held under the names of files
abbrev pub tables_outcome : (List ℕ → Option (List ℕ)) → List ℕ → Option Outcome
tables_outcome held input =
    stage input_file project_judged (λ p. Some (written 1 Done (tables_printed p))) (held input)
