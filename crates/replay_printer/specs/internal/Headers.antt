-- The answer to a line before the header.
use Rattle.std.specs.Prelude.{◌≡◌, ℕ, List, ◌++◌, Option, None, Some, Result, Ok, Err, ⊤}
use Rattle.object_index.specs.Objects.{Objects}
use Rattle.rule_types.specs.declared.names.NameDef.{NameDef}
use Rattle.rule_types.specs.declared.rules.Rules.{Rules}
use Rattle.trace_csv.specs.Columns.{Columns, header_of}
use Rattle.trace_csv.specs.declared.fault.TraceCause.{TraceCause}
use Rattle.replay_text.specs.Ends.{Faulty}
use Rattle.replay_text.specs.Lines.{header_line}
use Rattle.streamed_lines.specs.declared.line_printer.PrintEnd.{PrintEnd}
use Rattle.streamed_lines.specs.declared.line_printer.PrintEnd.TheVariants.{Refused, NoMemory}
use Rattle.replay_printer.specs.Printed.{end_line}

-- the line of a header that is faulty
abbrev pub header_said : List NameDef → ℕ → Result (Option Columns) TraceCause → Option (List ℕ)
header_said names number (Ok found) = None
header_said names number (Err cause) = end_line names (Faulty number cause)

-- the line is skipped, the header is printed, or the line is refused
abbrev pub PrintsHeader : Rules → Objects → ℕ → List ℕ → List ℕ → List ℕ
    → Result (Option Columns) PrintEnd → Type 0
PrintsHeader x objects number line text_old text_new (Ok None) =
    (header_of x.input_keys objects line ≡ Ok None) × (text_new ≡ text_old)
PrintsHeader x objects number line text_old text_new (Ok (Some header)) =
    (header_of x.input_keys objects line ≡ Ok (Some header))
    × (text_new ≡ text_old ++ header_line x objects)
PrintsHeader x objects number line text_old text_new (Err (Refused message)) =
    (header_said x.names number (header_of x.input_keys objects line) ≡ Some message)
    × (text_new ≡ text_old)
PrintsHeader x objects number line text_old text_new (Err NoMemory) = ⊤
