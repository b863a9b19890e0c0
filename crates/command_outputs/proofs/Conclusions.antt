-- What is said of a complaint, by the status that the run ends with.
use Rattle.std.proofs.Common.{inl, inr, ℕ, List, Option, refl, sym, subst, Err}
use Rattle.command_outputs.specs.Commands.{CountsAfter}
use Rattle.command_outputs.specs.Messages.{IsRefusal, TooLong as TooLongText, too_long_line}
use Rattle.command_outputs.specs.Runs.{Says}
use Rattle.command_outputs.specs.Statuses.{complaint_status, complaint_line, HasLine}
use Rattle.command_outputs.specs.Steps.{Tells}
use Rattle.command_outputs.specs.declared.complaint.Complaint.{Complaint}
use Rattle.command_outputs.specs.declared.complaint.Complaint.TheVariants.{Refused, TooLong}
use Rattle.command_outputs.specs.declared.complaint.Complaint.TheVariants.{ReadFailed, WriteFailed}
use Rattle.command_outputs.specs.declared.complaint.Complaint.TheVariants.{OutOfMemory}
use Rattle.command_outputs.specs.declared.role.Role.{Role}
use Rattle.command_outputs.specs.declared.status.Status.{Status}

-- the line of a file that is too long is that of a refusal
too_long_refusal : (r : Role) → IsRefusal (too_long_line r)
too_long_refusal r = record { text = TooLongText r; cause = tt; is = refl }

-- a complaint is said, or a prefix of its line where standard error failed
pub complaint_said : (usage : List ℕ) (roles : List Role) (fw fn : ℕ → ℕ) (ow on ew en : ℕ)
    (was now : Option (List ℕ)) (c : Complaint) (result : Status)
    → HasLine c → CountsAfter roles fw fn ow on (Err c)
    → Tells (complaint_line c) was now ew en (complaint_status c) result
    → Says usage roles fw fn ow on ew en was now result
complaint_said usage roles fw fn ow on ew en was now (Refused line) result has counts (inl said) =
    let P : Status → Type 0 = λ s. Says usage roles fw fn ow on ew en was now s in
    subst P (sym said.0) (line, has, said.1)
complaint_said usage roles fw fn ow on ew en was now (Refused line) result has counts (inr cut) =
    let P : Status → Type 0 = λ s. Says usage roles fw fn ow on ew en was now s in
    subst P (sym cut.0) (inr (inr (cut.2, (line, inr (inl has), cut.1))))
complaint_said usage roles fw fn ow on ew en was now (TooLong r) result has counts (inl said) =
    let P : Status → Type 0 = λ s. Says usage roles fw fn ow on ew en was now s in
    subst P (sym said.0) (too_long_line r, too_long_refusal r, said.1)
complaint_said usage roles fw fn ow on ew en was now (TooLong r) result has counts (inr cut) =
    let P : Status → Type 0 = λ s. Says usage roles fw fn ow on ew en was now s in
    subst P (sym cut.0) (inr (inr (cut.2, (too_long_line r, inr (inl (too_long_refusal r)), cut.1))))
complaint_said usage roles fw fn ow on ew en was now (ReadFailed r) result has counts (inl said) =
    let P : Status → Type 0 = λ s. Says usage roles fw fn ow on ew en was now s in
    subst P (sym said.0) (inl (r, counts, said.1))
complaint_said usage roles fw fn ow on ew en was now (ReadFailed r) result has counts (inr cut) =
    let P : Status → Type 0 = λ s. Says usage roles fw fn ow on ew en was now s in
    subst P (sym cut.0) (inr (inr (cut.2, (complaint_line (ReadFailed r), inr (inr (inl (r, refl))), cut.1))))
complaint_said usage roles fw fn ow on ew en was now WriteFailed result has counts (inl said) =
    let P : Status → Type 0 = λ s. Says usage roles fw fn ow on ew en was now s in
    subst P (sym said.0) (inr (inl (counts, said.1)))
complaint_said usage roles fw fn ow on ew en was now WriteFailed result has counts (inr cut) =
    let P : Status → Type 0 = λ s. Says usage roles fw fn ow on ew en was now s in
    subst P (sym cut.0) (inr (inr (cut.2, (complaint_line WriteFailed, inr (inr (inr (inl refl))), cut.1))))
complaint_said usage roles fw fn ow on ew en was now OutOfMemory result has counts (inl said) =
    let P : Status → Type 0 = λ s. Says usage roles fw fn ow on ew en was now s in
    subst P (sym said.0) said.1
complaint_said usage roles fw fn ow on ew en was now OutOfMemory result has counts (inr cut) =
    let P : Status → Type 0 = λ s. Says usage roles fw fn ow on ew en was now s in
    subst P (sym cut.0) (inr (inr (cut.2, (complaint_line OutOfMemory, inr (inr (inr (inr refl))), cut.1))))
