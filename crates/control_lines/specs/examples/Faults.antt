-- The faults that are reported of parts of a line, worked out by hand.
use Rattle.std.specs.Prelude.{◌≡◌, ℕ, true, false, None, Some, Ok, Err, codes}
use Rattle.rule_types.specs.declared.refusal.Cause.TheVariants.{WrongValue}
use Rattle.rule_types.specs.declared.refusal.Cause.TheVariants.{UnknownName}
use Rattle.control_lines.specs.Faults.{FaultText, Checked, fault_of, both, or_fault, refused_where}
use Rattle.control_lines.specs.Faults.{refusal_at}

abbrev pub unknown_name : FaultText
unknown_name = fault_of UnknownName (codes "foo")

abbrev pub wrong_value : FaultText
wrong_value = fault_of WrongValue (codes "5x")

abbrev pub other_value : FaultText
other_value = fault_of WrongValue (codes "6x")

-- a part that is at fault, and one that is the number 1
abbrev pub faulty : FaultText → Checked ℕ
faulty fault = Err fault

abbrev pub one : Checked ℕ
one = Ok 1

abbrev pub none : Checked (Unit {0})
none = Ok tt

pub record AreFaults : Type 0 where
  pub values : both one one ≡ Ok (1, 1)
  pub first : both (faulty unknown_name) one ≡ Err unknown_name
  pub second : both one (faulty unknown_name) ≡ Err unknown_name
  pub lower_number : both (faulty unknown_name) (faulty wrong_value) ≡ Err wrong_value
  pub lower_number_first : both (faulty wrong_value) (faulty unknown_name) ≡ Err wrong_value
  pub same_number : both (faulty other_value) (faulty wrong_value) ≡ Err other_value
  pub wanting : or_fault {A = ℕ} None WrongValue (codes "5x") ≡ Err wrong_value
  pub found : or_fault (Some 1) WrongValue (codes "5x") ≡ one
  pub refused : refused_where true wrong_value ≡ Err wrong_value
  pub accepted : refused_where false wrong_value ≡ none
  pub refusal :
      refusal_at 12 (faulty wrong_value)
      ≡ Some (record { line = 12; cause = WrongValue; token = codes "5x" })
  pub no_refusal : refusal_at 12 one ≡ None
