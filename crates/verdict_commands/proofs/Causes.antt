-- Each cause of a fault is one of those of the place where it is said.
use Rattle.std.proofs.Common.{ℕ, IsTrue, Option, refl}
use Rattle.command_outputs.specs.Messages.{is_cause}
use Rattle.command_outputs.specs.declared.place.Place.TheVariants.{ReportLine}
use Rattle.range_lines.specs.Causes.{cause_name, cause_number}
use Rattle.range_lines.specs.declared.fault.RangeCause.{RangeCause}
use Rattle.range_lines.specs.declared.fault.RangeCause.TheVariants.{BadLine, UnknownKey}
use Rattle.range_lines.specs.declared.fault.RangeCause.TheVariants.{EmptyRange, MissingRange}
use Rattle.range_lines.specs.declared.fault.RangeCause.TheVariants.{MissingMoment, Duplicate}
use Rattle.verdict_commands.specs.Faults.{fault_place, report_cause_name, report_cause_number}
use Rattle.verdict_meaning.specs.declared.cert.CertCause.{CertCause}
use Rattle.verdict_meaning.specs.declared.cert.CertCause.TheVariants.{Shape, NotShown, NoEvent}

pub known_range_cause : (line : Option ℕ) (cause : RangeCause)
    → IsTrue (is_cause (fault_place line cause) (cause_name cause) (cause_number cause))
known_range_cause line BadLine = refl
known_range_cause line UnknownKey = refl
known_range_cause line EmptyRange = refl
known_range_cause line MissingRange = refl
known_range_cause line MissingMoment = refl
known_range_cause line Duplicate = refl

pub known_report_cause : (line : ℕ) (cause : CertCause)
    → IsTrue (is_cause (ReportLine line) (report_cause_name cause) (report_cause_number cause))
known_report_cause line Shape = refl
known_report_cause line NotShown = refl
known_report_cause line NoEvent = refl
