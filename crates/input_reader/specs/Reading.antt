-- What is read of the input file.
use Rattle.std.specs.Prelude.{◌≡◌, ◌<◌, ◌≤◌, ℕ, List, length, reverse, Result, Ok, Err, ⊤}
use Rattle.std.specs.Prelude.{Option, IfSome}
use Rattle.command_outputs.specs.Outcomes.{input_file, file_lines}
use Rattle.command_outputs.specs.declared.complaint.Complaint.{Complaint}
use Rattle.command_outputs.specs.declared.complaint.Complaint.TheVariants.{Refused, TooLong}
use Rattle.command_outputs.specs.declared.complaint.Complaint.TheVariants.{ReadFailed, WriteFailed}
use Rattle.command_outputs.specs.declared.complaint.Complaint.TheVariants.{OutOfMemory}
use Rattle.inp_text.specs.Sections.{Line}
use Rattle.inp_text.specs.internal.Represents.{Represents}
use Rattle.inp_text.specs.declared.sections.Sections.{Sections}

-- the sections represent lines: those of the file, where its bytes are known
pub record ReadsLines (held : Option (List ℕ)) (sections : Sections) : Type 0 where
  -- newest first
  pub earlier : List Line
  pub represents : Represents sections earlier
  pub of_file : IfSome held (λ bytes. (length bytes ≤ input_file.budget)
      × (earlier ≡ reverse (file_lines input_file bytes)))

-- what each answer says where this is held under the name of the input file: its sections, or that
-- it has more bytes than its limit
abbrev pub ReadsSections : Option (List ℕ) → Result Sections Complaint → Type 0
ReadsSections held (Ok sections) = ReadsLines held sections
ReadsSections held (Err (Refused line)) = ⊥
ReadsSections held (Err (TooLong r)) = IfSome held (λ bytes. input_file.budget < length bytes)
ReadsSections held (Err (ReadFailed r)) = ⊤
ReadsSections held (Err WriteFailed) = ⊥
ReadsSections held (Err OutOfMemory) = ⊤
