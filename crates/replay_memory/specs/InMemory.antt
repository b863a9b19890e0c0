-- What a replay over files in memory leaves.
use Rattle.std.specs.Prelude.{◌≡◌, ◌⊎◌, ℕ, List, take, length, Option, Some, IfSome}
use Rattle.command_outputs.specs.Messages.{IsMessage, read_failed_line, write_failed_line}
use Rattle.command_outputs.specs.Messages.{out_of_memory_line}
use Rattle.command_outputs.specs.Outcomes.{Outcome, stage, input_file}
use Rattle.command_outputs.specs.declared.role.Role.{Role}
use Rattle.command_outputs.specs.declared.status.Status.{Status}
use Rattle.command_outputs.specs.declared.status.Status.TheVariants.{Done, Refused, Usage, Device}
use Rattle.command_outputs.specs.declared.status.Status.TheVariants.{NoMemory, Refuted, Undecided}
use Rattle.input_check.specs.InputRefusals.{project_judged}
use Rattle.project_commands.specs.Replays.{replay_printed}
use Rattle.streamed_lines.specs.Streams.{stream}
use Rattle.swmm_rules.specs.Commands.{usage_text}
use Rattle.replay_memory.specs.declared.in_memory.Written.{Written}

-- what `replay` comes to over an input file and a trace of these bytes
abbrev pub replay_of_bytes : List ℕ → List ℕ → Option Outcome
replay_of_bytes input trace =
    stage input_file project_judged (λ p. stream (replay_printed p) (Some trace)) (Some input)

-- these bytes are a prefix of this text
abbrev pub IsPrefixOf : List ℕ → List ℕ → Type 0
IsPrefixOf text bytes = bytes ≡ take (length bytes) text

-- what is said of a failed device: the file, or the output, or a prefix of a message where standard
-- error itself failed
abbrev pub SaysFault : List ℕ → Type 0
SaysFault error =
    ((r : Role) × (error ≡ read_failed_line r))
    ⊎ ((error ≡ write_failed_line)
    ⊎ ((text : List ℕ) × IsMessage usage_text text × IsPrefixOf text error))

-- the run ends as its outcome says: with this status, the whole text and the message
pub record EndsBytes (o : Outcome) (output error : List ℕ) (status : Status) : Type 0 where
  pub ends : o.status ≡ status
  pub text : output ≡ o.output
  pub message : error ≡ o.message

-- what is written, by the status: the run ends as the outcome says, unless memory was refused or a
-- device failed; then a prefix of the text is written
abbrev pub LeavesBytes : Outcome → List ℕ → List ℕ → Status → Type 0
LeavesBytes o output error Done = EndsBytes o output error Done
LeavesBytes o output error Refused = EndsBytes o output error Refused
LeavesBytes o output error Usage = EndsBytes o output error Usage
LeavesBytes o output error Refuted = EndsBytes o output error Refuted
LeavesBytes o output error Undecided = EndsBytes o output error Undecided
LeavesBytes o output error NoMemory =
    IsPrefixOf o.output output × (error ≡ out_of_memory_line)
LeavesBytes o output error Device = IsPrefixOf o.output output × SaysFault error

-- what the run over these two files left
abbrev pub IsReplayOf : List ℕ → List ℕ → Written → Type 0
IsReplayOf input trace written =
    IfSome (replay_of_bytes input trace)
    (λ o. LeavesBytes o written.output.items written.error.items written.status)
