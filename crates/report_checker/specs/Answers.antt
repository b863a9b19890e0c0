-- What the checker of reports answers.
use Rattle.std.specs.Prelude.{◌≡◌, Result, Ok, Err, ⊤}
use Rattle.report_checker.specs.declared.counts.Counts.{Counts}
use Rattle.report_checker.specs.declared.fault.ReportFault.{ReportFault}
use Rattle.report_checker.specs.declared.fault.ReportStop.{ReportStop}
use Rattle.report_checker.specs.declared.fault.ReportStop.TheVariants.{Fault, NoMemory}

-- an answer is the one that is due: the counts, or the first fault; nothing where memory is wanting
abbrev pub IsAnswer : Result Counts ReportFault → Result Counts ReportStop → Type 0
IsAnswer due (Ok counts) = due ≡ Ok counts
IsAnswer due (Err (Fault fault)) = due ≡ Err fault
IsAnswer due (Err NoMemory) = ⊤
