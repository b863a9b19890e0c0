-- A command of the program as a command line.
use Rattle.project_run.specs.ProjectLines.{ProjectLine, Check, Tables, Replay}
use Rattle.project_run.specs.declared.project_command.ProjectCommand.{ProjectCommand}
use Rattle.project_run.specs.declared.project_command.ProjectCommand.TheVariants as command

abbrev pub line_of : ProjectCommand → ProjectLine
line_of (command.Check input) = Check input.now
line_of (command.Tables input) = Tables input.now
line_of (command.Replay input trace) = Replay input.now trace.now
