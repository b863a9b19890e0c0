-- What a run says of the verdicts that its command writes.
use Rattle.std.proofs.Common.{◌≡◌, inl, inr, ℕ, List, [], Option, None, Some, IfSome}
use Rattle.std.proofs.Common.{Result, Ok, Err, refl, subst, arith}
use Rattle.std.specs.Prelude.{option_map}
use Rattle.std.specs.Io.KnownBytes.{Appends}
use Rattle.std.proofs.lemmas.Option.{none-some, same_Some}
use Rattle.byte_edge.proofs.PublicLaws.{written_bytes-prefix}
use Rattle.command_outputs.specs.Commands.{Answers, Performs}
use Rattle.command_outputs.specs.Outcomes.{Outcome}
use Rattle.command_outputs.specs.Runs.{Leaves, UnchangedFrom}
use Rattle.command_outputs.specs.Statuses.{complaint_line, complaint_status, completion_status}
use Rattle.command_outputs.specs.declared.complaint.Complaint.{Complaint}
use Rattle.command_outputs.specs.declared.complaint.Complaint.TheVariants as complaint
use Rattle.command_outputs.specs.declared.completion.Completion.{Completion}
use Rattle.command_outputs.specs.declared.completion.Completion.TheVariants as completion
use Rattle.command_outputs.specs.declared.role.Role.{Role}
use Rattle.command_outputs.specs.declared.status.Status.{Status}
use Rattle.command_outputs.specs.declared.status.Status.TheVariants.{Done, Refused, Usage, Device}
use Rattle.command_outputs.specs.declared.status.Status.TheVariants.{NoMemory, Refuted, Undecided}
use Rattle.verdict_commands.proofs.PublicLaws.{prove_outcomes-asked, prove_outcomes-opened}
use Rattle.verdict_commands.specs.Proves.{AreVerdicts, Decides, asked_project, prove_outcome, proved}
use Rattle.verdict_commands.specs.declared.prepared.Prepared.{Prepared}
use Rattle.verdict_meaning.specs.declared.verdict.Verdict.{Verdict}
use Rattle.swmm_rules.specs.Commands.{CommandLine, Check, Tables, Replay, Prove, Verify, Generate}
use Rattle.swmm_rules.specs.Commands.{outcome, roles_of}
use Rattle.swmm_rules.specs.RightVerdicts.{CommandDecides, HoldsByStatus, RunDecides}

-- ---- how many files are opened
same_count : (one other : Option Outcome) (P : ℕ → Type 0)
    → option_map (λ o. o.opened) one ≡ option_map (λ o. o.opened) other
    → IfSome one (λ o. P o.opened) → IfSome other (λ o. P o.opened)
same_count None None P same holds = tt
same_count None (Some o) P same holds = absurd (none-some o.opened same)
same_count (Some o) None P same holds = tt
same_count (Some one) (Some other) P same holds =
    subst P (same_Some one.opened other.opened same) holds

-- what holds of the number of files that a command opens holds of it whatever the verdicts are
pub any_verdicts : (held : List ℕ → Option (List ℕ)) (verdicts others : List Verdict)
    (command : CommandLine) (P : ℕ → Type 0)
    → IfSome (outcome held verdicts command) (λ o. P o.opened)
    → IfSome (outcome held others command) (λ o. P o.opened)
any_verdicts held verdicts others (Check input) P holds = holds
any_verdicts held verdicts others (Tables input) P holds = holds
any_verdicts held verdicts others (Replay input trace) P holds = holds
any_verdicts held verdicts others (Prove input ranges) P holds =
    same_count (prove_outcome held input ranges verdicts) (prove_outcome held input ranges others)
    P (prove_outcomes-opened held input ranges verdicts others) holds
any_verdicts held verdicts others (Verify input ranges report) P holds = holds
any_verdicts held verdicts others (Generate pumps) P holds = holds

-- ---- a complaint before anything was written
-- the outcome of a complaint: it is said, and nothing is written
abbrev said : Complaint → Outcome
said c = record {
  status = complaint_status c;
  output = [];
  message = complaint_line c;
  opened = 2;
  ended = 0;
  partial = None;
}

said_answers : (c : Complaint) (second_was : Option (List ℕ)) (left_now : ℕ → Option (List ℕ))
    (was now : Option (List ℕ)) → Appends was now []
    → Answers (said c) second_was left_now was now (Err c)
said_answers (complaint.Refused line) second_was left_now was now nothing = record {
  status = refl;
  message = refl;
  output = nothing;
  at_end = λ k below. absurd (omega (arith, below));
}
said_answers (complaint.TooLong r) second_was left_now was now nothing = record {
  status = refl;
  message = refl;
  output = nothing;
  at_end = λ k below. absurd (omega (arith, below));
}
said_answers (complaint.ReadFailed r) second_was left_now was now nothing = record {
  prefix = written_bytes-prefix was now [] [] nothing;
  written = nothing;
}
said_answers complaint.WriteFailed second_was left_now was now nothing =
    written_bytes-prefix was now [] [] nothing
said_answers complaint.OutOfMemory second_was left_now was now nothing =
    written_bytes-prefix was now [] [] nothing

-- a run with a complaint does not end as one that wrote its whole text
said_otherwise : (c : Complaint) (ends : Completion) → complaint_status c ≡ completion_status ends → ⊥
said_otherwise (complaint.Refused line) completion.Done is = absurd cc
said_otherwise (complaint.Refused line) completion.Refuted is = absurd cc
said_otherwise (complaint.Refused line) completion.Undecided is = absurd cc
said_otherwise (complaint.TooLong r) completion.Done is = absurd cc
said_otherwise (complaint.TooLong r) completion.Refuted is = absurd cc
said_otherwise (complaint.TooLong r) completion.Undecided is = absurd cc
said_otherwise (complaint.ReadFailed r) completion.Done is = absurd cc
said_otherwise (complaint.ReadFailed r) completion.Refuted is = absurd cc
said_otherwise (complaint.ReadFailed r) completion.Undecided is = absurd cc
said_otherwise complaint.WriteFailed completion.Done is = absurd cc
said_otherwise complaint.WriteFailed completion.Refuted is = absurd cc
said_otherwise complaint.WriteFailed completion.Undecided is = absurd cc
said_otherwise complaint.OutOfMemory completion.Done is = absurd cc
said_otherwise complaint.OutOfMemory completion.Refuted is = absurd cc
said_otherwise complaint.OutOfMemory completion.Undecided is = absurd cc

-- ---- by the status
holds_by_status : (fact : Type 0) (was now : Option (List ℕ)) (s : Status) → fact
    → HoldsByStatus fact was now s
holds_by_status fact was now Done holds = holds
holds_by_status fact was now Refuted holds = holds
holds_by_status fact was now Undecided holds = holds
holds_by_status fact was now Refused holds = inl holds
holds_by_status fact was now Usage holds = inl holds
holds_by_status fact was now NoMemory holds = inl holds
holds_by_status fact was now Device holds = inl holds

unwritten_by_status : (fact : Type 0) (c : Complaint) (second_was : Option (List ℕ))
    (left_now : ℕ → Option (List ℕ)) (was now ew en : Option (List ℕ)) (ofw ofn efw efn : ℕ)
    (s : Status) → Leaves (said c) second_was left_now was now ew en ofw ofn efw efn s
    → Appends was now [] → HoldsByStatus fact was now s
unwritten_by_status fact c second_was left_now was now ew en ofw ofn efw efn Done ends nothing =
    absurd (said_otherwise c completion.Done ends.status)
unwritten_by_status fact c second_was left_now was now ew en ofw ofn efw efn Refuted ends nothing =
    absurd (said_otherwise c completion.Refuted ends.status)
unwritten_by_status fact c second_was left_now was now ew en ofw ofn efw efn Undecided ends nothing =
    absurd (said_otherwise c completion.Undecided ends.status)
unwritten_by_status fact c second_was left_now was now ew en ofw ofn efw efn Refused ends nothing =
    inr nothing
unwritten_by_status fact c second_was left_now was now ew en ofw ofn efw efn Usage ends nothing =
    inr nothing
unwritten_by_status fact c second_was left_now was now ew en ofw ofn efw efn NoMemory ends nothing =
    inr nothing
unwritten_by_status fact c second_was left_now was now ew en ofw ofn efw efn Device ends nothing =
    inr nothing

-- ---- a run
-- what is given of a run of a command with this answer: for each outcome that the command performs,
-- what the run leaves
abbrev Concludes : List Role → (ℕ → Type 0) → (ℕ → Option (List ℕ)) → (ℕ → Option (List ℕ))
    → (ℕ → ℕ) → (ℕ → ℕ) → Option (List ℕ) → Option (List ℕ) → Option (List ℕ) → Option (List ℕ)
    → ℕ → ℕ → ℕ → ℕ → Result Completion Complaint → Status → Type 0
Concludes roles open_now lw ln fw fn was now ew en ofw ofn efw efn answer status =
    (o : Outcome) → Performs roles (Some o) open_now lw ln fw fn was now ofw ofn answer
    → Leaves o (lw 1) ln was now ew en ofw ofn efw efn status

-- a complaint before anything was written
unwritten_run : (fact : Type 0) (roles : List Role) (o : Outcome) (open_now : ℕ → Type 0)
    (lw ln : ℕ → Option (List ℕ)) (fw fn : ℕ → ℕ) (was now ew en : Option (List ℕ))
    (ofw ofn efw efn : ℕ) (c : Complaint) (status : Status)
    → Performs roles (Some o) open_now lw ln fw fn was now ofw ofn (Err c) → o.opened ≡ 2
    → Concludes roles open_now lw ln fw fn was now ew en ofw ofn efw efn (Err c) status
    → Appends was now [] → HoldsByStatus fact was now status
unwritten_run fact roles o open_now lw ln fw fn was now ew en ofw ofn efw efn c status performs two concludes nothing =
    let P : ℕ → Type 0 = λ count. UnchangedFrom count lw ln fw fn in
    unwritten_by_status fact c (lw 1) ln was now ew en ofw ofn efw efn status
    (concludes (said c) (record {
      answers = said_answers c (lw 1) ln was now nothing;
      unchanged = subst P two performs.unchanged;
      counts = performs.counts;
      opened = performs.opened;
    }))
    nothing

decided_run : (asked : Prepared) (verdicts : List Verdict) (roles : List Role)
    (o : Outcome) (open_now : ℕ → Type 0)
    (lw ln : ℕ → Option (List ℕ)) (fw fn : ℕ → ℕ) (was now ew en : Option (List ℕ))
    (ofw ofn efw efn : ℕ) (answer : Result Completion Complaint) (status : Status)
    → Decides (Some asked) verdicts was now answer
    → Performs roles (Some o) open_now lw ln fw fn was now ofw ofn answer → o.opened ≡ 2
    → Concludes roles open_now lw ln fw fn was now ew en ofw ofn efw efn answer status
    → HoldsByStatus (AreVerdicts asked verdicts) was now status
decided_run asked verdicts roles o open_now lw ln fw fn was now ew en ofw ofn efw efn (Ok ends) status decides performs two concludes =
    holds_by_status (AreVerdicts asked verdicts) was now status decides
decided_run asked verdicts roles o open_now lw ln fw fn was now ew en ofw ofn efw efn (Err complaint.WriteFailed) status decides performs two concludes =
    holds_by_status (AreVerdicts asked verdicts) was now status decides
decided_run asked verdicts roles o open_now lw ln fw fn was now ew en ofw ofn efw efn (Err (complaint.Refused line)) status decides performs two concludes =
    unwritten_run (AreVerdicts asked verdicts) roles o open_now lw ln fw fn was now ew en
    ofw ofn efw efn (complaint.Refused line) status performs two concludes decides
decided_run asked verdicts roles o open_now lw ln fw fn was now ew en ofw ofn efw efn (Err (complaint.TooLong r)) status decides performs two concludes =
    unwritten_run (AreVerdicts asked verdicts) roles o open_now lw ln fw fn was now ew en
    ofw ofn efw efn (complaint.TooLong r) status performs two concludes decides
decided_run asked verdicts roles o open_now lw ln fw fn was now ew en ofw ofn efw efn (Err (complaint.ReadFailed r)) status decides performs two concludes =
    unwritten_run (AreVerdicts asked verdicts) roles o open_now lw ln fw fn was now ew en
    ofw ofn efw efn (complaint.ReadFailed r) status performs two concludes decides
decided_run asked verdicts roles o open_now lw ln fw fn was now ew en ofw ofn efw efn (Err complaint.OutOfMemory) status decides performs two concludes =
    unwritten_run (AreVerdicts asked verdicts) roles o open_now lw ln fw fn was now ew en
    ofw ofn efw efn complaint.OutOfMemory status performs two concludes decides

-- a run of `prove`, where it is known what it asks
asked_run : (asked : Option Prepared) (verdicts : List Verdict) (roles : List Role)
    (known : Option Outcome) (open_now : ℕ → Type 0)
    (lw ln : ℕ → Option (List ℕ)) (fw fn : ℕ → ℕ) (was now ew en : Option (List ℕ))
    (ofw ofn efw efn : ℕ) (answer : Result Completion Complaint) (status : Status)
    → ((p : Prepared) → asked ≡ Some p → known ≡ Some (proved verdicts p))
    → Decides asked verdicts was now answer
    → Performs roles known open_now lw ln fw fn was now ofw ofn answer
    → Concludes roles open_now lw ln fw fn was now ew en ofw ofn efw efn answer status
    → IfSome asked (λ p. HoldsByStatus (AreVerdicts p verdicts) was now status)
asked_run None verdicts roles known open_now lw ln fw fn was now ew en ofw ofn efw efn answer status comes decides performs concludes = tt
asked_run (Some p) verdicts roles known open_now lw ln fw fn was now ew en ofw ofn efw efn answer status comes decides performs concludes =
    let P : Option Outcome → Type 0 =
    λ o. Performs roles o open_now lw ln fw fn was now ofw ofn answer in
    decided_run p verdicts roles (proved verdicts p) open_now lw ln fw fn was now ew en
    ofw ofn efw efn answer status decides (subst P (comes p refl) performs) refl concludes

pub command_run : (held : List ℕ → Option (List ℕ)) (verdicts : List Verdict)
    (command : CommandLine) (open_now : ℕ → Type 0)
    (lw ln : ℕ → Option (List ℕ)) (fw fn : ℕ → ℕ) (was now ew en : Option (List ℕ))
    (ofw ofn efw efn : ℕ) (answer : Result Completion Complaint) (status : Status)
    → CommandDecides held verdicts command was now answer
    → Performs (roles_of command) (outcome held verdicts command) open_now lw ln fw fn
    was now ofw ofn answer
    → ((o : Outcome) → Performs (roles_of command) (Some o) open_now lw ln fw fn
    was now ofw ofn answer → Leaves o (lw 1) ln was now ew en ofw ofn efw efn status)
    → RunDecides held verdicts (Some command) was now status
command_run held verdicts (Check input) open_now lw ln fw fn was now ew en ofw ofn efw efn answer status decides performs concludes = tt
command_run held verdicts (Tables input) open_now lw ln fw fn was now ew en ofw ofn efw efn answer status decides performs concludes = tt
command_run held verdicts (Replay input trace) open_now lw ln fw fn was now ew en ofw ofn efw efn answer status decides performs concludes = tt
command_run held verdicts (Prove input ranges) open_now lw ln fw fn was now ew en ofw ofn efw efn answer status decides performs concludes =
    asked_run (asked_project held input ranges) verdicts (roles_of (Prove input ranges))
    (prove_outcome held input ranges verdicts) open_now lw ln fw fn was now ew en
    ofw ofn efw efn answer status (prove_outcomes-asked held input ranges verdicts)
    decides performs concludes
command_run held verdicts (Verify input ranges report) open_now lw ln fw fn was now ew en ofw ofn efw efn answer status decides performs concludes = tt
command_run held verdicts (Generate pumps) open_now lw ln fw fn was now ew en ofw ofn efw efn answer status decides performs concludes = tt
