-- Control bytes of a line.
use Rattle.std.specs.Prelude.{◌≡◌, ℕ, ◌+◌, Bool, ◌||◌, ◌&&◌, not, ◌==◌, nat_lt, if◌then◌else◌}
use Rattle.std.specs.Prelude.{List, [], ◌∷◌, Option, None, Some}
use Rattle.inp_text.specs.Bytes.{tab, space, delete}
use Rattle.inp_text.specs.Items.{before_comment}
use Rattle.inp_text.specs.declared.fault.TextFault.{TextFault}
use Rattle.inp_text.specs.declared.fault.TextFault.TheVariants.{BadText, NoMemory}

-- a control byte other than tab: one below the space, or the delete
abbrev pub is_control : ℕ → Bool
is_control byte = (nat_lt byte space && not (byte == tab)) || (byte == delete)

-- the place of the first control byte of these bytes, whose first one is at `at`
abbrev pub control_from : ℕ → List ℕ → Option ℕ
control_from at [] = None
control_from at (byte ∷ rest) = if is_control byte then Some at else control_from (at + 1) rest

-- the place of the first control byte of a line before its comment, from 0
abbrev pub first_control : List ℕ → Option ℕ
first_control line = control_from 0 (before_comment line)

-- a fault gives the place of this control byte; no memory is reported only where there is none
abbrev pub FaultReports : Option ℕ → TextFault → Type 0
FaultReports place (BadText at) = place ≡ Some at
FaultReports place NoMemory = place ≡ None
