-- The causes of faults in a trace, and the line that reports one.
use Rattle.std.specs.Prelude.{ℕ, List, ◌++◌, codes, Result, Ok, Err, ◌≡◌, ⊤}
use Rattle.std.specs.Fmt.{decimal}
use Rattle.trace_csv.specs.declared.fault.TraceCause.{TraceCause}
use Rattle.trace_csv.specs.declared.fault.TraceCause.TheVariants.{NoHeader, BadHeader}
use Rattle.trace_csv.specs.declared.fault.TraceCause.TheVariants.{DuplicateColumn}
use Rattle.trace_csv.specs.declared.fault.TraceCause.TheVariants.{MissingColumn, FieldCount}
use Rattle.trace_csv.specs.declared.fault.TraceCause.TheVariants.{BadMoment}
use Rattle.trace_csv.specs.declared.fault.TraceCause.TheVariants.{NotLater, BeforeStart, BadNumber}
use Rattle.trace_csv.specs.declared.fault.TraceCause.TheVariants.{LineTooLong}
use Rattle.trace_csv.specs.declared.fault.TraceEnd.{TraceEnd}
use Rattle.trace_csv.specs.declared.fault.TraceEnd.TheVariants.{Fault, NoMemory}

-- the number of a cause
abbrev pub cause_number : TraceCause → ℕ
cause_number NoHeader = 1
cause_number BadHeader = 2
cause_number DuplicateColumn = 3
cause_number MissingColumn = 4
cause_number FieldCount = 5
cause_number BadMoment = 6
cause_number NotLater = 7
cause_number BeforeStart = 8
cause_number BadNumber = 9
cause_number LineTooLong = 10

-- the name of a cause
abbrev pub cause_name : TraceCause → List ℕ
cause_name NoHeader = codes "NoHeader"
cause_name BadHeader = codes "BadHeader"
cause_name DuplicateColumn = codes "DuplicateColumn"
cause_name MissingColumn = codes "MissingColumn"
cause_name FieldCount = codes "FieldCount"
cause_name BadMoment = codes "BadMoment"
cause_name NotLater = codes "NotLater"
cause_name BeforeStart = codes "BeforeStart"
cause_name BadNumber = codes "BadNumber"
cause_name LineTooLong = codes "LineTooLong"

-- a cause with its number, `Cause (N)`
abbrev pub cause_text : TraceCause → List ℕ
cause_text cause = cause_name cause ++ codes " (" ++ decimal (cause_number cause) ++ codes ")"

-- the report of a fault on a line of a trace, `error: trace line L: Cause (N)`
abbrev pub fault_text : ℕ → TraceCause → List ℕ
fault_text line cause =
    codes "error: trace line " ++ decimal line ++ codes ": " ++ cause_text cause

-- an answer is the one that is due, unless there is no memory
abbrev pub Answers : {A : Type 0} → Result A TraceEnd → Result A TraceCause → Type 0
Answers (Ok found) due = due ≡ Ok found
Answers (Err (Fault cause)) due = due ≡ Err cause
Answers (Err NoMemory) due = ⊤
