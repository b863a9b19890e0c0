-- The lines on standard error.
use Rattle.std.specs.Prelude.{◌≡◌, ◌⊎◌, ◌==◌, ◌&&◌, ℕ, Bool, IsTrue, List, [], ◌∷◌, ◌++◌, codes, ⊤}
use Rattle.std.specs.Fmt.{decimal}
use Rattle.std.specs.List.{list_any}
use Rattle.std.specs.Str.{bytes_eq}
use Rattle.byte_edge.specs.TextBytes.{line_feed}
use Rattle.command_outputs.specs.declared.place.BranchWord.{BranchWord}
use Rattle.command_outputs.specs.declared.place.BranchWord.TheVariants as branch
use Rattle.command_outputs.specs.declared.place.Place.{Place}
use Rattle.command_outputs.specs.declared.place.Place.TheVariants as place
use Rattle.command_outputs.specs.declared.place.StopWord.{StopWord}
use Rattle.command_outputs.specs.declared.place.StopWord.TheVariants as stop
use Rattle.command_outputs.specs.declared.role.Role.{Role}
use Rattle.command_outputs.specs.declared.role.Role.TheVariants as role

-- a line: this text and LF
abbrev pub line_of : List ℕ → List ℕ
line_of text = text ++ line_feed ∷ []

-- ---- devices, limits, memory
-- a file as it is named
abbrev pub role_name : Role → List ℕ
role_name role.Input = codes "input"
role_name role.Trace = codes "trace"
role_name role.Ranges = codes "ranges"
role_name role.Report = codes "report"

-- a file has more bytes than its limit
abbrev pub too_long_line : Role → List ℕ
too_long_line r = line_of (codes "error: " ++ role_name r ++ codes " too long")

-- an open or a read of a file failed
abbrev pub read_failed_line : Role → List ℕ
read_failed_line r = line_of (codes "error: read failed: " ++ role_name r)

-- a write to the output failed
abbrev pub write_failed_line : List ℕ
write_failed_line = line_of (codes "error: write failed")

-- memory was refused
abbrev pub out_of_memory_line : List ℕ
out_of_memory_line = line_of (codes "error: out of memory")

-- ---- refusals
-- what a refusal speaks of
abbrev pub place_text : Place → List ℕ
place_text (place.InputLine line) = codes "input line " ++ decimal line
place_text (place.TraceLine line) = codes "trace line " ++ decimal line
place_text (place.RangesLine line) = codes "ranges line " ++ decimal line
place_text place.Ranges = codes "ranges"
place_text (place.ReportLine line) = codes "report line " ++ decimal line
place_text (place.PrintedLine line) = codes "printed line " ++ decimal line
place_text place.Link = codes "link"
place_text place.Row = codes "row"

-- a cause of refusal: its name and its number
abbrev pub Cause : Type 0
Cause = List ℕ × ℕ

-- the causes of refusal of a line of the input file, in the order in which they are looked for
abbrev pub input_causes : List Cause
input_causes =
    (codes "LineTooLong", 1) ∷ (codes "BadText", 2) ∷ (codes "BadOption", 3)
    ∷ (codes "DuplicateName", 4) ∷ (codes "BadCurve", 5) ∷ (codes "BadSeries", 6)
    ∷ (codes "BadClause", 7) ∷ (codes "ClauseOrder", 8) ∷ (codes "UnknownObject", 9)
    ∷ (codes "WrongKind", 10) ∷ (codes "UnknownAttribute", 11) ∷ (codes "WrongValue", 12)
    ∷ (codes "UnknownName", 13) ∷ (codes "ReservedName", 14)
    ∷ (codes "OutsideFunction", 15) ∷ (codes "BadExpression", 16)
    ∷ (codes "NumberTooLarge", 17) ∷ (codes "UnknownTable", 18) ∷ (codes "FileSeries", 19)
    ∷ (codes "RuleStep", 20) ∷ (codes "TooMany", 21) ∷ []

-- those of a line of a trace
abbrev pub trace_causes : List Cause
trace_causes =
    (codes "NoHeader", 1) ∷ (codes "BadHeader", 2) ∷ (codes "DuplicateColumn", 3)
    ∷ (codes "MissingColumn", 4) ∷ (codes "FieldCount", 5) ∷ (codes "BadMoment", 6)
    ∷ (codes "NotLater", 7) ∷ (codes "BeforeStart", 8) ∷ (codes "BadNumber", 9)
    ∷ (codes "LineTooLong", 10) ∷ []

-- those of a line of the ranges
abbrev pub ranges_line_causes : List Cause
ranges_line_causes =
    (codes "BadLine", 1) ∷ (codes "UnknownKey", 2) ∷ (codes "EmptyRange", 3)
    ∷ (codes "Duplicate", 6) ∷ []

-- those of the ranges as a whole
abbrev pub ranges_causes : List Cause
ranges_causes = (codes "MissingRange", 4) ∷ (codes "MissingMoment", 5) ∷ []

-- those of a line of a report
abbrev pub report_causes : List Cause
report_causes = (codes "Shape", 1) ∷ (codes "NotShown", 2) ∷ (codes "NoEvent", 3) ∷ []

-- those of a line of printed rules
abbrev pub printed_causes : List Cause
printed_causes = (codes "LineTooLong", 1) ∷ (codes "StatusName", 2) ∷ []

-- the causes at a place
abbrev pub causes_at : Place → List Cause
causes_at (place.InputLine line) = input_causes
causes_at (place.TraceLine line) = trace_causes
causes_at (place.RangesLine line) = ranges_line_causes
causes_at place.Ranges = ranges_causes
causes_at (place.ReportLine line) = report_causes
causes_at (place.PrintedLine line) = printed_causes
causes_at place.Link = (codes "UnknownLink", 1) ∷ []
causes_at place.Row = (codes "PastEnd", 2) ∷ []

-- whether a cause of this name and number is one of those at the place
abbrev pub is_cause : Place → List ℕ → ℕ → Bool
is_cause p name number =
    list_any (λ cause. bytes_eq name cause.0 && (number == cause.1)) (causes_at p)

-- a cause as it is written
abbrev pub cause_text : List ℕ → ℕ → List ℕ
cause_text name number = name ++ codes " (" ++ decimal number ++ codes ")"

-- a token after the cause, where there is one
abbrev pub token_part : List ℕ → List ℕ
token_part [] = []
token_part (byte ∷ bytes) = codes ": " ++ byte ∷ bytes

-- the line of a cause at its place
abbrev pub fault_line : Place → List ℕ → ℕ → List ℕ → List ℕ
fault_line p name number token =
    line_of (codes "error: " ++ place_text p ++ codes ": " ++ cause_text name number
    ++ token_part token)

-- ---- stops
abbrev pub stop_word : StopWord → List ℕ
stop_word stop.Overflow = codes "Overflow"
stop_word stop.ZeroDivisor = codes "ZeroDivisor"

abbrev pub branch_word : BranchWord → List ℕ
branch_word branch.Then = codes "then"
branch_word branch.Else = codes "else"

-- the line of a row that stops at a name
abbrev pub stop_in_name_line : ℕ → StopWord → List ℕ → List ℕ
stop_in_name_line line cause name =
    line_of (codes "error: trace line " ++ decimal line ++ codes ": "
    ++ stop_word cause ++ codes " in name " ++ name)

-- the place of an action: its rule, its branch and its number, rules and actions counted from 1
abbrev pub action_text : ℕ → BranchWord → ℕ → List ℕ
action_text rule word action =
    decimal rule ++ codes " " ++ branch_word word ++ codes " " ++ decimal action

-- the line of a row that stops at an action
abbrev pub stop_in_rule_line : ℕ → ℕ → BranchWord → ℕ → List ℕ
stop_in_rule_line line rule word action =
    line_of (codes "error: trace line " ++ decimal line ++ codes ": Overflow in rule "
    ++ action_text rule word action)

-- ---- all lines
-- what a refusal says
pub data RefusalText : Type 0 where
  Fault : Place → List ℕ → ℕ → List ℕ → RefusalText
  StopInName : ℕ → StopWord → List ℕ → RefusalText
  StopInRule : ℕ → ℕ → BranchWord → ℕ → RefusalText
  TooLong : Role → RefusalText

-- its line
abbrev pub refusal_line : RefusalText → List ℕ
refusal_line (Fault p name number token) = fault_line p name number token
refusal_line (StopInName line cause name) = stop_in_name_line line cause name
refusal_line (StopInRule line rule word action) = stop_in_rule_line line rule word action
refusal_line (TooLong r) = too_long_line r

-- the cause of a fault is one of those of its place
abbrev pub HasCause : RefusalText → Type 0
HasCause (Fault p name number token) = IsTrue (is_cause p name number)
HasCause (StopInName line cause name) = ⊤
HasCause (StopInRule line rule word action) = ⊤
HasCause (TooLong r) = ⊤

-- the bytes are the line of a refusal
pub record IsRefusal (bytes : List ℕ) : Type 0 where
  pub text : RefusalText
  pub cause : HasCause text
  pub is : bytes ≡ refusal_line text

-- the text is one of those that are said: the usage, the line of a refusal, of a device or of
-- memory
abbrev pub IsMessage : List ℕ → List ℕ → Type 0
IsMessage usage text =
    (text ≡ usage) ⊎ (IsRefusal text ⊎ (((r : Role) × (text ≡ read_failed_line r))
    ⊎ ((text ≡ write_failed_line) ⊎ (text ≡ out_of_memory_line))))
