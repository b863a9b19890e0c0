-- What the reader of a report answers, in the words of the definition of reports.
use Rattle.std.specs.Prelude.{◌≡◌, ℕ, suc, Bool, List, Option, None, Some, Result, Ok, Err, ⊤}
use Rattle.inp_text.specs.Sections.{Line}
use Rattle.num_text.specs.Fields.{◌>>=◌}
use Rattle.report_lines.specs.Reports.{Entry, version_by}
use Rattle.report_lines.specs.Words.{Read, read_to, line_at}
use Rattle.report_lines.specs.declared.fault.ReportEnd.{ReportEnd}
use Rattle.report_lines.specs.declared.fault.ReportEnd.TheVariants.{Shape, NoMemory}
use Rattle.report_reader.specs.declared.entry.EntryRead.{EntryRead}

-- whether a report has version 2, by its first line; nothing where this has not its form
unfoldable pub version_of : List Line → Option Bool
version_of lines = line_at lines 0 >>= version_by

-- an entry, with the place of the line behind it
abbrev pub entry_now : EntryRead → Read Entry
entry_now read =
    read_to
    (record { question = read.question; verdict = read.verdict; places = read.places.items })
    read.next

-- a fault by the number of its line, from 1
abbrev pub numbered : {A : Type 0} → Result A ℕ → Result A ℕ
numbered (Ok value) = Ok value
numbered (Err at) = Err (suc at)

-- the next entry or the end of the report is the one that is due, unless there is no memory; the
-- line of a fault counts from 1
abbrev pub Answers : Result (Option (Read Entry)) ℕ → Result (Option EntryRead) ReportEnd → Type 0
Answers due (Ok None) = due ≡ Ok None
Answers due (Ok (Some read)) = due ≡ Ok (Some (entry_now read))
Answers due (Err (Shape line)) = numbered due ≡ Err line
Answers due (Err NoMemory) = ⊤
