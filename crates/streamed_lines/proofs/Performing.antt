-- What a command performs that streams a trace after its input file was accepted.
use Rattle.std.proofs.Common.{◌≡◌, ◌⊎◌, inl, inr, ◌<◌, ◌≤◌, ℕ, zero, suc, ◌+◌, List, [], length}
use Rattle.std.proofs.Common.{Option, None, Some, IfSome, Result, Ok, Err}
use Rattle.std.proofs.Common.{ap, refl, sym, ◌∙◌, arith, subst}
use Rattle.std.specs.Prelude.{slice_get}
use Rattle.std.specs.Io.KnownBytes.{Appends, IsAtEnd}
use Rattle.byte_edge.specs.Devices.{CountIncreased}
use Rattle.byte_edge.specs.Lines.{LineEvent}
use Rattle.command_outputs.specs.Commands.{Answers, CountsAfter, IsInterrupted, Performs}
use Rattle.command_outputs.specs.Outcomes.{Outcome}
use Rattle.command_outputs.specs.Runs.{AreAtEnd, UnchangedFrom, WritesWhenOpen}
use Rattle.command_outputs.specs.Statuses.{completion_status}
use Rattle.command_outputs.specs.Steps.{StagesPassed}
use Rattle.command_outputs.specs.declared.complaint.Complaint.{Complaint}
use Rattle.command_outputs.specs.declared.complaint.Complaint.TheVariants.{Refused, TooLong}
use Rattle.command_outputs.specs.declared.complaint.Complaint.TheVariants.{ReadFailed, WriteFailed}
use Rattle.command_outputs.specs.declared.complaint.Complaint.TheVariants.{OutOfMemory}
use Rattle.command_outputs.specs.declared.completion.Completion.{Completion}
use Rattle.command_outputs.specs.declared.role.Role.{Role}
use Rattle.command_outputs.specs.declared.role.Role.TheVariants.{Trace}
use Rattle.streamed_lines.specs.Printers.{EndsStream, PrintsFile, StreamCounts, StreamsTrace}
use Rattle.streamed_lines.specs.Streams.{Printed, stream, streamed, stream_status, stream_message}
use Rattle.streamed_lines.specs.Streams.{stream_ended, text_of_taken, trace_events}

-- a fact of slots 0 and 1
of_two : (P : ℕ → Type 0) → P 0 → P 1 → (k : ℕ) → k < 2 → P k
of_two P first second zero below = first
of_two P first second (suc zero) below = second
of_two P first second (suc (suc k)) below = absurd (omega (arith, below))

of_one : (P : ℕ → Type 0) → P 0 → (k : ℕ) → k < 1 → P k
of_one P first zero below = first
of_one P first (suc k) below = absurd (omega (arith, below))

-- how many files are read to their end
ended_as : (left : ℕ → Option (List ℕ)) (message other : Option (List ℕ)) → message ≡ other
    → AreAtEnd (stream_ended other) left → AreAtEnd (stream_ended message) left
ended_as left message other is at_end =
    let P : Option (List ℕ) → Type 0 = λ o. AreAtEnd (stream_ended o) left in subst P (sym is) at_end

stream_answers : (print : List LineEvent → Printed) (held : Option (List ℕ))
    (second_was second_mid : Option (List ℕ)) (left : ℕ → Option (List ℕ)) (was now : Option (List ℕ))
    (result : Result Completion Complaint)
    → second_mid ≡ second_was → IsAtEnd (left 0) → EndsStream left result
    → IfSome held (λ trace. PrintsFile print trace second_mid (left 1) was now result)
    → IfSome (stream print held) (λ o. Answers o second_was left was now result)
stream_answers print None second_was second_mid left was now result same first ends prints = tt
stream_answers print (Some trace) second_was second_mid left was now (Ok completion) same first ends p = record {
  status = ap stream_status p.0 ∙ ap completion_status (sym p.1);
  message = ap stream_message p.0;
  output = p.2;
  at_end = ended_as left _ None p.0 (of_two (λ k. IsAtEnd (left k)) first ends);
}
stream_answers print (Some trace) second_was second_mid left was now (Err (Refused message)) same first ends p = record {
  status = ap stream_status p.0;
  message = ap stream_message p.0;
  output = p.1;
  at_end = ended_as left _ (Some message) p.0 (of_one (λ k. IsAtEnd (left k)) first);
}
stream_answers print (Some trace) second_was second_mid left was now (Err (TooLong r)) same first ends p = record {
  status = ap stream_status p.0;
  message = ap stream_message p.0;
  output = p.1;
  at_end = ended_as left _ _ p.0 (of_one (λ k. IsAtEnd (left k)) first);
}
stream_answers print (Some trace) second_was second_mid left was now (Err (ReadFailed r)) same first ends p =
    let P : Option (List ℕ) → Type 0 =
    λ second. IsInterrupted (streamed (print (trace_events trace)) (text_of_taken print trace)) second (left 1) was now in
    subst P same p
stream_answers print (Some trace) second_was second_mid left was now (Err WriteFailed) same first ends p = p
stream_answers print (Some trace) second_was second_mid left was now (Err OutOfMemory) same first ends p = p

stream_unchanged : (print : List LineEvent → Printed) (held : Option (List ℕ))
    (left_was left_now : ℕ → Option (List ℕ)) (faults_was faults_now : ℕ → ℕ)
    → UnchangedFrom 2 left_was left_now faults_was faults_now
    → IfSome (stream print held) (λ o. UnchangedFrom o.opened left_was left_now faults_was faults_now)
stream_unchanged print None left_was left_now faults_was faults_now unchanged = tt
stream_unchanged print (Some trace) left_was left_now faults_was faults_now unchanged = unchanged

stream_counts : (roles : List Role) (f0 f1 f2 : ℕ → ℕ) (ow on : ℕ) (left : ℕ → Option (List ℕ))
    (result : Result Completion Complaint) → slice_get roles 1 ≡ Some Trace
    → ((k : ℕ) → f1 k ≡ f0 k) → EndsStream left result → StreamCounts f1 f2 ow on result
    → CountsAfter roles f0 f2 ow on result
stream_counts roles f0 f1 f2 ow on left (Ok completion) role same ends counts =
    record { files = λ k. counts.files k ∙ same k; out = counts.out }
stream_counts roles f0 f1 f2 ow on left (Err (Refused message)) role same ends counts =
    record { files = λ k. counts.files k ∙ same k; out = counts.out }
stream_counts roles f0 f1 f2 ow on left (Err (TooLong r)) role same ends counts =
    record { files = λ k. counts.files k ∙ same k; out = counts.out }
stream_counts roles f0 f1 f2 ow on left (Err (ReadFailed r)) role same ends counts =
    let P : ℕ → Type 0 = λ n. CountIncreased n (f2 1) in
    record { slot = 1; is = role ∙ ap Some (sym ends); increased = subst P (same 1) counts }
stream_counts roles f0 f1 f2 ow on left (Err WriteFailed) role same ends counts = counts
stream_counts roles f0 f1 f2 ow on left (Err OutOfMemory) role same ends counts =
    record { files = λ k. counts.files k ∙ same k; out = counts.out }

stream_opened : (roles : List Role) (is_open : ℕ → Type 0) (was now : Option (List ℕ))
    → length roles ≡ 2 → is_open 0 → is_open 1 ⊎ Appends was now []
    → WritesWhenOpen roles is_open was now
stream_opened roles is_open was now two first (inl second) =
    inl (λ k below. of_two is_open first second k (omega (arith, two, below)))
stream_opened roles is_open was now two first (inr nothing) = inr nothing

-- the input file was read and accepted, and the trace was streamed
pub stream_performs : {open1 open2 : ℕ → Type 0} {held0 held1 : List ℕ → Option (List ℕ)}
    {left0 left1 left2 : ℕ → Option (List ℕ)} {faults0 faults1 faults2 : ℕ → ℕ}
    → (roles : List Role) (print : List LineEvent → Printed) (held was now : Option (List ℕ))
    (ow on : ℕ) (result : Result Completion Complaint)
    → slice_get roles 1 ≡ Some Trace → length roles ≡ 2
    → StagesPassed 1 open1 held0 held1 left0 left1 faults0 faults1
    → StreamsTrace print held open1 open2 left1 left2 faults1 faults2 was now ow on result
    → Performs roles (stream print held) open2 left0 left2 faults0 faults2 was now ow on result
stream_performs {open2 = open2} {left0 = left0} {left1 = left1} {left2 = left2} {faults0 = faults0} {faults1 = faults1} {faults2 = faults2}
    roles print held was now ow on result role two passed streams = record {
      answers = stream_answers print held (left0 1) (left1 1) left2 was now result
          (passed.others 1 (omega arith)) first streams.ends streams.prints;
      unchanged = stream_unchanged print held left0 left2 faults0 faults2 (λ k past. (
        streams.other_slots k (omega (arith, past)) ∙ passed.others k (omega (arith, past)),
        streams.other_counts k (omega (arith, past)) ∙ passed.counts k,
      ));
      counts = stream_counts roles faults0 faults1 faults2 ow on left2 result role passed.counts streams.ends streams.counts;
      opened = stream_opened roles open2 was now two
          (streams.stays_open 0 (passed.opened 0 (omega arith))) streams.opened;
    }
  where
    first : IsAtEnd (left2 0)
    first = let P : Option (List ℕ) → Type 0 = λ o. IsAtEnd o in
        subst P (sym (streams.other_slots 0 (omega arith))) (passed.at_end 0 (omega arith))
