-- The lines that say a fault of the ranges and of a report.
use Rattle.std.specs.Prelude.{◌≡◌, ℕ, Bool, true, false, not, List, [], codes}
use Rattle.std.specs.Prelude.{Option, None, Some, is_some}
use Rattle.command_outputs.specs.Messages.{fault_line}
use Rattle.command_outputs.specs.declared.place.Place.{Place}
use Rattle.command_outputs.specs.declared.place.Place.TheVariants.{RangesLine, Ranges, ReportLine}
use Rattle.key_words.specs.KeyTexts.{key_text}
use Rattle.object_index.specs.Objects.{Objects}
use Rattle.range_lines.specs.Causes.{FileFault, cause_name, cause_number}
use Rattle.range_lines.specs.declared.fault.RangeCause.{RangeCause}
use Rattle.range_lines.specs.declared.fault.RangeCause.TheVariants.{BadLine, UnknownKey}
use Rattle.range_lines.specs.declared.fault.RangeCause.TheVariants.{EmptyRange, MissingRange}
use Rattle.range_lines.specs.declared.fault.RangeCause.TheVariants.{MissingMoment, Duplicate}
use Rattle.report_checker.specs.declared.fault.ReportFault.{ReportFault}
use Rattle.rule_types.specs.declared.key.Key.{Key}
use Rattle.verdict_meaning.specs.declared.cert.CertCause.{CertCause}
use Rattle.verdict_meaning.specs.declared.cert.CertCause.TheVariants.{Shape, NotShown, NoEvent}

-- ---- ranges
-- whether something is missing, of which no line tells
abbrev pub is_missing : RangeCause → Bool
is_missing BadLine = false
is_missing UnknownKey = false
is_missing EmptyRange = false
is_missing MissingRange = true
is_missing MissingMoment = true
is_missing Duplicate = false

-- a fault has a line exactly where nothing is missing
abbrev pub HasPlace : FileFault → Type 0
HasPlace fault = is_some fault.line ≡ not (is_missing fault.cause)

-- the number of a line
abbrev pub line_number : Option ℕ → ℕ
line_number None = 0
line_number (Some line) = line

-- where a fault is said: at the ranges as a whole where something is missing, else at its line
abbrev pub fault_place : Option ℕ → RangeCause → Place
fault_place line BadLine = RangesLine (line_number line)
fault_place line UnknownKey = RangesLine (line_number line)
fault_place line EmptyRange = RangesLine (line_number line)
fault_place line MissingRange = Ranges
fault_place line MissingMoment = Ranges
fault_place line Duplicate = RangesLine (line_number line)

-- the key that has no range, where this is the fault
abbrev pub key_token : Objects → Option Key → List ℕ
key_token objects None = []
key_token objects (Some key) = key_text objects key

-- the line that says a fault of the ranges
abbrev pub range_said : Objects → FileFault → List ℕ
range_said objects fault =
    fault_line (fault_place fault.line fault.cause) (cause_name fault.cause)
    (cause_number fault.cause) (key_token objects fault.key)

-- ---- reports
-- the name of a cause
abbrev pub report_cause_name : CertCause → List ℕ
report_cause_name Shape = codes "Shape"
report_cause_name NotShown = codes "NotShown"
report_cause_name NoEvent = codes "NoEvent"

-- its number
abbrev pub report_cause_number : CertCause → ℕ
report_cause_number Shape = 1
report_cause_number NotShown = 2
report_cause_number NoEvent = 3

-- the line that says a fault of a report
abbrev pub report_said : ReportFault → List ℕ
report_said fault =
    fault_line (ReportLine fault.line) (report_cause_name fault.cause)
    (report_cause_number fault.cause) []
