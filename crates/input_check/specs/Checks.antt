-- What `check` comes to.
use Rattle.std.specs.Prelude.{ℕ, List, [], ◌∷◌, ◌++◌, length, codes, Option, Some}
use Rattle.std.specs.Fmt.{decimal}
use Rattle.command_outputs.specs.Messages.{line_of}
use Rattle.command_outputs.specs.Outcomes.{Outcome, stage, written, input_file}
use Rattle.command_outputs.specs.declared.role.Role.{Role}
use Rattle.command_outputs.specs.declared.role.Role.TheVariants.{Input}
use Rattle.command_outputs.specs.declared.status.Status.TheVariants.{Done}
use Rattle.object_index.specs.Objects.{object_count}
use Rattle.input_check.specs.InputRefusals.{project_judged}
use Rattle.rule_parser.specs.declared.project.Project.{Project}

-- the numbers of rules, of names and of objects
abbrev pub check_text : Project → List ℕ
check_text p =
    line_of (codes "rules " ++ decimal (length p.rules.rules)
    ++ codes " names " ++ decimal (length p.rules.names)
    ++ codes " objects " ++ decimal (object_count p.objects))

abbrev pub check_roles : List Role
check_roles = Input ∷ []

-- what `check IN` comes to, over what is held under the names of files
abbrev pub check_outcome : (List ℕ → Option (List ℕ)) → List ℕ → Option Outcome
check_outcome held input =
    stage input_file project_judged (λ p. Some (written 1 Done (check_text p))) (held input)
