-- The judgement of an input file, with the line that refuses it.
use Rattle.std.specs.Prelude.{◌≡◌, ℕ, List, codes, Option, Result, Ok, Err, ⊤}
use Rattle.rule_types.specs.Causes.{cause_number}
use Rattle.rule_types.specs.declared.refusal.Cause.{Cause}
use Rattle.rule_types.specs.declared.refusal.Cause.TheVariants.{LineTooLong, BadText, BadOption}
use Rattle.rule_types.specs.declared.refusal.Cause.TheVariants.{DuplicateName, BadCurve, BadSeries}
use Rattle.rule_types.specs.declared.refusal.Cause.TheVariants.{BadClause, ClauseOrder, UnknownObject}
use Rattle.rule_types.specs.declared.refusal.Cause.TheVariants.{WrongKind, UnknownAttribute, WrongValue}
use Rattle.rule_types.specs.declared.refusal.Cause.TheVariants.{UnknownName, ReservedName, OutsideFunction}
use Rattle.rule_types.specs.declared.refusal.Cause.TheVariants.{BadExpression, NumberTooLarge, UnknownTable}
use Rattle.rule_types.specs.declared.refusal.Cause.TheVariants.{FileSeries, RuleStep, TooMany}
use Rattle.rule_types.specs.declared.refusal.Refusal.{Refusal}
use Rattle.command_outputs.specs.Messages.{fault_line}
use Rattle.command_outputs.specs.declared.complaint.Complaint.{Complaint}
use Rattle.command_outputs.specs.declared.complaint.Complaint.TheVariants as complaint
use Rattle.command_outputs.specs.declared.place.Place.TheVariants.{InputLine}
use Rattle.rule_parser.specs.Projects.{project_of}
use Rattle.rule_parser.specs.declared.project.Project.{Project}

-- the name of a cause
abbrev pub cause_name : Cause → List ℕ
cause_name LineTooLong = codes "LineTooLong"
cause_name BadText = codes "BadText"
cause_name BadOption = codes "BadOption"
cause_name DuplicateName = codes "DuplicateName"
cause_name BadCurve = codes "BadCurve"
cause_name BadSeries = codes "BadSeries"
cause_name BadClause = codes "BadClause"
cause_name ClauseOrder = codes "ClauseOrder"
cause_name UnknownObject = codes "UnknownObject"
cause_name WrongKind = codes "WrongKind"
cause_name UnknownAttribute = codes "UnknownAttribute"
cause_name WrongValue = codes "WrongValue"
cause_name UnknownName = codes "UnknownName"
cause_name ReservedName = codes "ReservedName"
cause_name OutsideFunction = codes "OutsideFunction"
cause_name BadExpression = codes "BadExpression"
cause_name NumberTooLarge = codes "NumberTooLarge"
cause_name UnknownTable = codes "UnknownTable"
cause_name FileSeries = codes "FileSeries"
cause_name RuleStep = codes "RuleStep"
cause_name TooMany = codes "TooMany"

-- the line that says a refusal
abbrev pub refusal_said : Refusal → List ℕ
refusal_said r = fault_line (InputLine r.line) (cause_name r.cause) (cause_number r.cause) r.token

-- what is judged, with the line of a refusal
abbrev pub with_line : {A : Type 0} → Result A Refusal → Result A (List ℕ)
with_line (Ok value) = Ok value
with_line (Err refusal) = Err (refusal_said refusal)

-- the project of a file, or the line that refuses it
unfoldable pub project_judged : List (Option (List ℕ)) → Result Project (List ℕ)
project_judged file = with_line (project_of file)

-- a project as it was read
abbrev pub project_read : Project → Project
project_read project = project

-- an answer is the one that is due, unless there is no memory
abbrev pub Judges : {A T : Type 0} → Result A (List ℕ) → (T → A) → Result T Complaint → Type 0
Judges due view (Ok value) = due ≡ Ok (view value)
Judges due view (Err (complaint.Refused line)) = due ≡ Err line
Judges due view (Err (complaint.TooLong r)) = ⊥
Judges due view (Err (complaint.ReadFailed r)) = ⊥
Judges due view (Err complaint.WriteFailed) = ⊥
Judges due view (Err complaint.OutOfMemory) = ⊤
