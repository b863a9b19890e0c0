-- One step through a report, and what is left of it.
use Rattle.std.specs.Prelude.{◌≡◌, ℕ, Option, Some, None, Result, Ok, Err, ⊤}
use Rattle.report_lines.specs.declared.fault.ReportEnd.{ReportEnd}
use Rattle.report_lines.specs.declared.fault.ReportEnd.TheVariants as form
use Rattle.report_checker.specs.declared.checking.Progress.{Progress}
use Rattle.report_checker.specs.declared.counts.Counts.{Counts}
use Rattle.report_checker.specs.declared.fault.ReportFault.{ReportFault}
use Rattle.report_checker.specs.declared.fault.ReportStop.{ReportStop}
use Rattle.report_checker.specs.declared.fault.ReportStop.TheVariants.{Fault, NoMemory}
use Rattle.verdict_meaning.specs.declared.cert.CertCause.TheVariants as cause

-- how the entries from a place on are judged
abbrev pub Later : Type 0
Later = ℕ → Counts → Result Counts ReportFault

-- a step goes on from a place, ends the report or tells a fault, whatever comes later
abbrev pub Steps : (Later → Result Counts ReportFault) → Counts
    → Result (Option Progress) ReportStop → Type 0
Steps due counts (Ok None) = (later : Later) → due later ≡ Ok counts
Steps due counts (Ok (Some next)) = (later : Later) → due later ≡ later next.at next.counts
Steps due counts (Err (Fault fault)) = (later : Later) → due later ≡ Err fault
Steps due counts (Err NoMemory) = ⊤

-- the stop of a line that has not its form
abbrev pub form_stop : ReportEnd → ReportStop
form_stop (form.Shape line) = Fault (record { line = line; cause = cause.Shape })
form_stop form.NoMemory = NoMemory
