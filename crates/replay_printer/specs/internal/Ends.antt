-- How a printer ends.
use Rattle.std.specs.Prelude.{◌≡◌, ℕ, ◌+◌, List, Option, Some, ⊤}
use Rattle.command_outputs.specs.Messages.{stop_in_name_line, stop_in_rule_line}
use Rattle.command_outputs.specs.declared.place.BranchWord.{BranchWord}
use Rattle.command_outputs.specs.declared.place.BranchWord.TheVariants.{Then, Else}
use Rattle.command_outputs.specs.declared.place.StopWord.{StopWord}
use Rattle.command_outputs.specs.declared.place.StopWord.TheVariants as word
use Rattle.rule_types.specs.declared.action.ActionAt.{ActionAt}
use Rattle.rule_types.specs.declared.action.Branch.{Branch}
use Rattle.rule_types.specs.declared.action.Branch.TheVariants as branch
use Rattle.rule_types.specs.declared.stop.RowStop.{RowStop}
use Rattle.rule_types.specs.declared.stop.RowStop.TheVariants as row_stop
use Rattle.rule_types.specs.declared.stop.Stop.{Stop}
use Rattle.rule_types.specs.declared.stop.StopCause.{StopCause}
use Rattle.rule_types.specs.declared.stop.StopCause.TheVariants.{Overflow, ZeroDivisor}
use Rattle.rule_types.specs.declared.stop.StopPlace.{StopPlace}
use Rattle.rule_types.specs.declared.stop.StopPlace.TheVariants as place
use Rattle.streamed_lines.specs.declared.line_printer.PrintEnd.{PrintEnd}
use Rattle.streamed_lines.specs.declared.line_printer.PrintEnd.TheVariants.{Refused, NoMemory}

-- a printer ends with this line, unless memory was refused
abbrev pub EndsWith : PrintEnd → Option (List ℕ) → Type 0
EndsWith (Refused message) line = line ≡ Some message
EndsWith NoMemory line = ⊤

-- an action stops by an overflow alone
abbrev pub CauseAt : StopPlace → StopCause → Type 0
CauseAt (place.Name name) cause = ⊤
CauseAt (place.Action at) cause = cause ≡ Overflow

abbrev pub IsReadingStop : Stop → Type 0
IsReadingStop stop = CauseAt stop.place stop.cause

-- the stop that a row is answered with
abbrev pub stop_in : RowStop → Stop
stop_in (row_stop.Stop stop) = stop
stop_in (row_stop.Stopped stop) = stop

-- the words of a stop and of a branch
abbrev pub stop_reason : StopCause → StopWord
stop_reason Overflow = word.Overflow
stop_reason ZeroDivisor = word.ZeroDivisor

abbrev pub branch_of : Branch → BranchWord
branch_of branch.Then = Then
branch_of branch.Otherwise = Else

-- the line of a stop at a name, and of an overflow at an action
abbrev pub name_said : ℕ → StopCause → List ℕ → Option (List ℕ)
name_said line cause name = Some (stop_in_name_line line (stop_reason cause) name)

abbrev pub action_said : ℕ → ActionAt → Option (List ℕ)
action_said line at =
    Some (stop_in_rule_line line (at.rule + 1) (branch_of at.branch) (at.action + 1))
