-- What is at fault in a part of a line, and which of several faults on one line is reported.
use Rattle.std.specs.Prelude.{ℕ, Bool, nat_lt, if◌then◌else◌, List, Option, None, Some}
use Rattle.std.specs.Prelude.{Result, Ok, Err, ok_or}
use Rattle.rule_types.specs.Causes.{cause_number}
use Rattle.rule_types.specs.declared.refusal.Cause.{Cause}
use Rattle.rule_types.specs.declared.refusal.Refusal.{Refusal}

-- a fault on a line: its cause, and the bytes that are at fault, as written
pub record FaultText : Type 0 where
  pub cause : Cause
  pub token : List ℕ

abbrev pub fault_of : Cause → List ℕ → FaultText
fault_of cause token = record { cause = cause; token = token }

-- of two faults on one line, the one with the lower number of its cause, and the first where these
-- are the same
unfoldable pub sooner : FaultText → FaultText → FaultText
sooner a b = if nat_lt (cause_number b.cause) (cause_number a.cause) then b else a

-- what a part of a line gives: a value, or the fault that is reported of this part
abbrev pub Checked : Type 0 → Type 0
Checked A = Result A FaultText

-- a value that is made of what a part gives
abbrev pub then_with : {A B : Type 0} → (A → B) → Checked A → Checked B
then_with f (Ok a) = Ok (f a)
then_with f (Err fault) = Err fault

-- two parts of a line: both values, or the fault that is reported
unfoldable pub both : {A B : Type 0} → Checked A → Checked B → Checked (A × B)
both (Ok a) (Ok b) = Ok (a, b)
both (Ok a) (Err fault) = Err fault
both (Err fault) (Ok b) = Err fault
both (Err one) (Err other) = Err (sooner one other)

-- a value that may be wanting: where it is, this is at fault
abbrev pub or_fault : {A : Type 0} → Option A → Cause → List ℕ → Checked A
or_fault found cause token = ok_or found (fault_of cause token)

-- the fault where a test holds
abbrev pub refused_where : Bool → FaultText → Checked (Unit {0})
refused_where test fault = if test then Err fault else Ok tt

-- the refusal of a line by a fault
abbrev pub refusal_on : ℕ → FaultText → Refusal
refusal_on number fault = record { line = number; cause = fault.cause; token = fault.token }

-- the refusal of a line, if what was read of it is at fault
abbrev pub refusal_at : {A : Type 0} → ℕ → Checked A → Option Refusal
refusal_at number (Ok value) = None
refusal_at number (Err fault) = Some (refusal_on number fault)
