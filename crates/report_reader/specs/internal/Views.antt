-- What the parts of the reader stand for in the words of the definitions.
use Rattle.std.specs.Prelude.{◌≡◌, ℕ, suc, Result, Ok, Err, ⊤}
use Rattle.report_lines.specs.Reports.{Entry}
use Rattle.report_lines.specs.Words.{Reading}
use Rattle.report_lines.specs.declared.fault.ReportEnd.{ReportEnd}
use Rattle.report_lines.specs.declared.fault.ReportEnd.TheVariants.{Shape, NoMemory}
use Rattle.report_reader.specs.Answers.{entry_now}
use Rattle.report_reader.specs.declared.entry.EntryRead.{EntryRead}

-- an entry, or the place of the line at fault
abbrev pub entry_reading : Result EntryRead ℕ → Reading Entry
entry_reading (Ok read) = Ok (entry_now read)
entry_reading (Err at) = Err at

-- the fault of the line at a place, unless there is no memory
abbrev pub IsFaultAt : ℕ → ReportEnd → Type 0
IsFaultAt at (Shape line) = line ≡ suc at
IsFaultAt at NoMemory = ⊤
