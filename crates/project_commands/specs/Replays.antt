-- What `replay` comes to.
use Rattle.std.specs.Prelude.{ℕ, List, [], ◌∷◌, Option}
use Rattle.byte_edge.specs.Lines.{LineEvent}
use Rattle.command_outputs.specs.Outcomes.{Outcome, stage, input_file}
use Rattle.command_outputs.specs.declared.role.Role.{Role}
use Rattle.command_outputs.specs.declared.role.Role.TheVariants.{Input, Trace}
use Rattle.replay_printer.specs.Printed.{as_printed}
use Rattle.replay_text.specs.Replays.{replay_text}
use Rattle.rule_parser.specs.declared.project.Project.{Project}
use Rattle.streamed_lines.specs.Streams.{Printed, stream}
use Rattle.input_check.specs.InputRefusals.{project_judged}

abbrev pub replay_roles : List Role
replay_roles = Input ∷ Trace ∷ []

-- what is printed of the lines of a trace: the text of the replay of the project's rules, and the
-- line that says how it ended
abbrev pub replay_printed : Project → List LineEvent → Printed
replay_printed project lines =
    as_printed project.rules.names
    (replay_text project.rules project.tables project.objects lines)

-- what `replay IN TRACE` comes to, over what is held under the names of files
abbrev pub replay_outcome : (List ℕ → Option (List ℕ)) → List ℕ → List ℕ → Option Outcome
replay_outcome held input trace =
    stage input_file project_judged (λ p. stream (replay_printed p) (held trace)) (held input)
