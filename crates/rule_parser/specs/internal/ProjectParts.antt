-- The project of a file by its parts.
use Rattle.std.specs.Prelude.{Option, None, Some, Result, Ok, Err}
use Rattle.rule_types.specs.Refusals.{lower}
use Rattle.rule_types.specs.Tables.{TableSet}
use Rattle.rule_types.specs.declared.refusal.Refusal.{Refusal}
use Rattle.network_lines.specs.declared.network.Network.{Network}
use Rattle.network_lines.specs.declared.options.OptionSet.{OptionSet}
use Rattle.rule_parser.specs.Projects.{project_with}
use Rattle.rule_parser.specs.declared.draft.Draft.{Draft}
use Rattle.rule_parser.specs.declared.project.ControlsRead.{ControlsRead}
use Rattle.rule_parser.specs.declared.project.Project.{Project}

-- the tables and the control lines, or the lower of their refusals
abbrev pub both_read :
    Result TableSet Refusal → Result Draft Refusal → Result ControlsRead Refusal
both_read (Ok tables) (Ok draft) = Ok (record { tables = tables; draft = draft })
both_read (Ok tables) (Err refusal) = Err refusal
both_read (Err first) (Ok draft) = Err first
both_read (Err first) (Err second) = Err (lower first second)

-- the lower of a refusal and of another, if there is one
abbrev pub first_of : Option Refusal → Refusal → Refusal
first_of None last = last
first_of (Some first) last = lower first last

-- the project where the other lines have this refusal, if any
abbrev pub project_by :
    Option Refusal → OptionSet → Network → Result ControlsRead Refusal → Result Project Refusal
project_by None options network (Ok read) =
    Ok (project_with options network read.tables read.draft)
project_by (Some refusal) options network (Ok read) = Err refusal
project_by refusal options network (Err last) = Err (first_of refusal last)
