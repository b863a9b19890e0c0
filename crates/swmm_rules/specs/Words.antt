-- A command of the program as a command line.
use Rattle.std.specs.Prelude.{◌≤◌, ⊤}
use Rattle.swmm_rules.specs.Commands.{CommandLine, Check, Tables, Replay, Prove}
use Rattle.swmm_rules.specs.Commands.{Verify, Generate}
use Rattle.swmm_rules.specs.declared.command.Command.{Command}
use Rattle.swmm_rules.specs.declared.command.Command.TheVariants as command

abbrev pub line_of : Command → CommandLine
line_of (command.Check input) = Check input.now
line_of (command.Tables input) = Tables input.now
line_of (command.Replay input trace) = Replay input.now trace.now
line_of (command.Prove input ranges) = Prove input.now ranges.now
line_of (command.Verify input ranges report) = Verify input.now ranges.now report.now
line_of (command.Generate pumps) = Generate pumps

-- a generated model has 1 to 1,000 pumps
abbrev pub IsInBounds : Command → Type 0
IsInBounds (command.Check input) = ⊤
IsInBounds (command.Tables input) = ⊤
IsInBounds (command.Replay input trace) = ⊤
IsInBounds (command.Prove input ranges) = ⊤
IsInBounds (command.Verify input ranges report) = ⊤
IsInBounds (command.Generate pumps) = (1 ≤ pumps) × (pumps ≤ 1000)
