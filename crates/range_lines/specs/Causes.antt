-- Why a ranges file is refused, and the line that reports it.
use Rattle.std.specs.Prelude.{◌≡◌, ℕ, List, ◌++◌, codes, Option, None, Some, Result, Ok, Err, ⊤}
use Rattle.std.specs.Fmt.{decimal}
use Rattle.key_words.specs.KeyTexts.{key_text}
use Rattle.object_index.specs.Objects.{Objects}
use Rattle.rule_types.specs.declared.key.Key.{Key}
use Rattle.range_lines.specs.declared.fault.RangeCause.{RangeCause}
use Rattle.range_lines.specs.declared.fault.RangeCause.TheVariants.{BadLine, UnknownKey}
use Rattle.range_lines.specs.declared.fault.RangeCause.TheVariants.{EmptyRange, MissingRange}
use Rattle.range_lines.specs.declared.fault.RangeCause.TheVariants.{MissingMoment, Duplicate}
use Rattle.range_lines.specs.declared.fault.RangeEnd.{RangeEnd}
use Rattle.range_lines.specs.declared.fault.RangeEnd.TheVariants.{Fault, NoMemory}

-- a fault: its line, unless the file as a whole is at fault; its cause; and the key that has no
-- range, where this is the cause
pub record FileFault : Type 0 where
  pub line : Option ℕ
  pub cause : RangeCause
  pub key : Option Key

-- the fault of a line
abbrev pub line_fault : ℕ → RangeCause → FileFault
line_fault number cause = record { line = Some number; cause = cause; key = None }

-- the fault of a file in which a key has no range, and of one that has no moments
abbrev pub missing_range : Key → FileFault
missing_range key = record { line = None; cause = MissingRange; key = Some key }

abbrev pub missing_moment : FileFault
missing_moment = record { line = None; cause = MissingMoment; key = None }

-- the number of a cause
abbrev pub cause_number : RangeCause → ℕ
cause_number BadLine = 1
cause_number UnknownKey = 2
cause_number EmptyRange = 3
cause_number MissingRange = 4
cause_number MissingMoment = 5
cause_number Duplicate = 6

-- the name of a cause
abbrev pub cause_name : RangeCause → List ℕ
cause_name BadLine = codes "BadLine"
cause_name UnknownKey = codes "UnknownKey"
cause_name EmptyRange = codes "EmptyRange"
cause_name MissingRange = codes "MissingRange"
cause_name MissingMoment = codes "MissingMoment"
cause_name Duplicate = codes "Duplicate"

-- a cause with its number, `Cause (N)`
abbrev pub cause_text : RangeCause → List ℕ
cause_text cause = cause_name cause ++ codes " (" ++ decimal (cause_number cause) ++ codes ")"

-- the place of a fault: its line, or none
abbrev pub place_text : Option ℕ → List ℕ
place_text None = codes ": "
place_text (Some line) = codes " line " ++ decimal line ++ codes ": "

-- the key of a fault, or nothing
abbrev pub named_text : Objects → Option Key → List ℕ
named_text objects None = codes ""
named_text objects (Some key) = codes ": " ++ key_text objects key

-- the report of a fault: `error: ranges line L: Cause (N)`, `error: ranges: Cause (N)`, or with
-- `: KEY` behind it
abbrev pub fault_text : Objects → FileFault → List ℕ
fault_text objects fault =
    codes "error: ranges" ++ place_text fault.line ++ cause_text fault.cause
    ++ named_text objects fault.key

-- an answer is the one that is due, unless there is no memory
abbrev pub Reads : {A : Type 0} → Result A FileFault → Result A RangeEnd → Type 0
Reads due (Ok value) = due ≡ Ok value
Reads due (Err (Fault line cause key)) =
    due ≡ Err (record { line = line; cause = cause; key = key })
Reads due (Err NoMemory) = ⊤
