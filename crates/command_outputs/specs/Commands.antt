-- What a command leaves, by its answer, before anything is said of it.
use Rattle.std.specs.Prelude.{◌≡◌, ℕ, List, [], Option, IfSome, Result, Ok, Err}
use Rattle.std.specs.Io.KnownBytes.{Appends}
use Rattle.byte_edge.specs.Devices.{CountIncreased, AppendsPrefix}
use Rattle.command_outputs.specs.Messages.{too_long_line}
use Rattle.command_outputs.specs.Outcomes.{Outcome}
use Rattle.command_outputs.specs.Runs.{AreAtEnd, UnchangedFrom, WritesWhenOpen, Interrupted}
use Rattle.command_outputs.specs.Runs.{IsFaultOf}
use Rattle.command_outputs.specs.Statuses.{completion_status}
use Rattle.command_outputs.specs.declared.complaint.Complaint.{Complaint}
use Rattle.command_outputs.specs.declared.complaint.Complaint.TheVariants.{Refused, TooLong}
use Rattle.command_outputs.specs.declared.complaint.Complaint.TheVariants.{ReadFailed, WriteFailed}
use Rattle.command_outputs.specs.declared.complaint.Complaint.TheVariants.{OutOfMemory}
use Rattle.command_outputs.specs.declared.completion.Completion.{Completion}
use Rattle.command_outputs.specs.declared.role.Role.{Role}
use Rattle.command_outputs.specs.declared.status.Status.{Status}
use Rattle.command_outputs.specs.declared.status.Status.TheVariants as status

-- the command ends as its outcome says: with this status and message, its whole text, and its
-- files read to their end
pub record MeetsOutcome (o : Outcome) (ends : Status) (says : List ℕ)
    (left_now : ℕ → Option (List ℕ)) (was now : Option (List ℕ)) : Type 0 where
  pub status : o.status ≡ ends
  pub message : o.message ≡ says
  pub output : Appends was now o.output
  pub at_end : AreAtEnd o.ended left_now

-- a read failed: a prefix of the text is written, and exactly how much
pub record IsInterrupted (o : Outcome) (second_was second_now was now : Option (List ℕ))
    : Type 0 where
  pub prefix : AppendsPrefix was now o.output
  pub written : Interrupted o.partial second_was second_now was now

-- what each answer says where the outcome is known
abbrev pub Answers : Outcome → Option (List ℕ) → (ℕ → Option (List ℕ))
    → Option (List ℕ) → Option (List ℕ) → Result Completion Complaint → Type 0
Answers o second_was left_now was now (Ok completion) =
    MeetsOutcome o (completion_status completion) [] left_now was now
Answers o second_was left_now was now (Err (Refused line)) =
    MeetsOutcome o status.Refused line left_now was now
Answers o second_was left_now was now (Err (TooLong r)) =
    MeetsOutcome o status.Refused (too_long_line r) left_now was now
Answers o second_was left_now was now (Err (ReadFailed r)) =
    IsInterrupted o second_was (left_now 1) was now
Answers o second_was left_now was now (Err WriteFailed) = AppendsPrefix was now o.output
Answers o second_was left_now was now (Err OutOfMemory) = AppendsPrefix was now o.output

-- no count of faults changed
pub record CountsUnchanged (faults_was faults_now : ℕ → ℕ) (out_was out_now : ℕ) : Type 0 where
  pub files : (k : ℕ) → faults_now k ≡ faults_was k
  pub out : out_now ≡ out_was

-- the counts of faults of the files and of the output, and that a refusal has a line, by the answer
abbrev pub CountsAfter : List Role → (ℕ → ℕ) → (ℕ → ℕ) → ℕ → ℕ → Result Completion Complaint
    → Type 0
CountsAfter roles fw fn ow on (Ok completion) = CountsUnchanged fw fn ow on
CountsAfter roles fw fn ow on (Err (Refused line)) = CountsUnchanged fw fn ow on
CountsAfter roles fw fn ow on (Err (TooLong r)) = CountsUnchanged fw fn ow on
CountsAfter roles fw fn ow on (Err (ReadFailed r)) = IsFaultOf roles fw fn r
CountsAfter roles fw fn ow on (Err WriteFailed) = CountIncreased ow on
CountsAfter roles fw fn ow on (Err OutOfMemory) = CountsUnchanged fw fn ow on

-- What a command with files of these roles leaves, whose outcome is this, where it is known what
-- its files hold. Every command's function has this one clause.
pub record Performs (roles : List Role) (outcome : Option Outcome) (open_now : ℕ → Type 0)
    (left_was left_now : ℕ → Option (List ℕ)) (faults_was faults_now : ℕ → ℕ)
    (out_was out_now : Option (List ℕ)) (out_faults_was out_faults_now : ℕ)
    (result : Result Completion Complaint) : Type 0 where
  pub answers : IfSome outcome (λ o. Answers o (left_was 1) left_now out_was out_now result)
  pub unchanged : IfSome outcome
      (λ o. UnchangedFrom o.opened left_was left_now faults_was faults_now)
  pub counts : CountsAfter roles faults_was faults_now out_faults_was out_faults_now result
  pub opened : WritesWhenOpen roles open_now out_was out_now
