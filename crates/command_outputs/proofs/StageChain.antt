-- Stages one after another, and what a command leaves at each of its ends.
use Rattle.std.proofs.Common.{◌≡◌, ◌≢◌, ◌⊎◌, inl, inr, ◌<◌, ◌≤◌, ℕ, ◌+◌, Bool, true, false, cond}
use Rattle.std.proofs.Common.{List, [], length, nat_lt, leb, Option, None, Some, IfSome, Result, Ok, Err}
use Rattle.std.proofs.Common.{ap, refl, sym, ◌∙◌, subst, arith}
use Rattle.std.specs.Prelude.{slice_get}
use Rattle.std.proofs.lemmas.Bool.{leb-true, leb-false}
use Rattle.std.proofs.lemmas.Bool.Decides.{nat_tests}
use Rattle.std.proofs.lemmas.Option.{IfSome_then}
use Rattle.std.specs.Io.KnownBytes.{IsAtEnd}
use Rattle.byte_edge.proofs.PublicLaws.{written_bytes-nothing, written_bytes-prefix}
use Rattle.byte_edge.specs.Devices.{AppendsPrefix, CountIncreased, FaultCounts}
use Rattle.command_outputs.specs.Commands.{Answers, CountsAfter, IsInterrupted}
use Rattle.command_outputs.specs.Commands.{Performs}
use Rattle.command_outputs.specs.Messages.{too_long_line}
use Rattle.command_outputs.specs.Outcomes.{Outcome, stage, stage_of, judged, refused, too_long}
use Rattle.command_outputs.specs.Outcomes.{written, file_lines}
use Rattle.command_outputs.specs.Runs.{Interrupted, UnchangedFrom}
use Rattle.command_outputs.specs.Statuses.{completion_status}
use Rattle.command_outputs.specs.Steps.{EndsStage, JudgesFile, PassesStage, StagesPassed, WritesText}
use Rattle.command_outputs.specs.Steps.{is_read_failed}
use Rattle.command_outputs.specs.declared.complaint.Complaint.{Complaint}
use Rattle.command_outputs.specs.declared.complaint.Complaint.TheVariants.{Refused, TooLong}
use Rattle.command_outputs.specs.declared.complaint.Complaint.TheVariants.{ReadFailed, WriteFailed}
use Rattle.command_outputs.specs.declared.complaint.Complaint.TheVariants.{OutOfMemory}
use Rattle.command_outputs.specs.declared.completion.Completion.{Completion}
use Rattle.command_outputs.specs.declared.file_kind.FileKind.{FileKind}
use Rattle.command_outputs.specs.declared.role.Role.{Role}

-- ---- stages that are passed
pub none_passed : {is_open : ℕ → Type 0} {held : List ℕ → Option (List ℕ)}
    {left : ℕ → Option (List ℕ)} {faults : ℕ → ℕ}
    → StagesPassed 0 is_open held held left left faults faults
none_passed = record {
  opened = λ k below. absurd (omega (arith, below));
  names = λ name. refl;
  at_end = λ k below. absurd (omega (arith, below));
  others = λ k past. refl;
  counts = λ k. refl;
}

-- a fact of the first numbers and of the next one
at_next : (P : ℕ → Type 0) (n k : ℕ) → k < n + 1 → ((j : ℕ) → j < n → P j) → P n → P k
at_next P n k within below next = by (leb n k) refl
  where
    by : (b : Bool) → leb n k ≡ b → P k
    by true is = let e : n ≡ k = omega (arith, within, leb-true n k is) in subst P e next
    by false is = below k (omega (arith, leb-false n k is))

pub one_more : {A T : Type 0} {open1 open2 : ℕ → Type 0}
    {held0 held1 held2 : List ℕ → Option (List ℕ)} {left0 left1 left2 : ℕ → Option (List ℕ)}
    {faults0 faults1 faults2 : ℕ → ℕ}
    → (kind : FileKind) (judge : List (Option (List ℕ)) → Result A (List ℕ)) (view : T → A)
    (held : Option (List ℕ)) (value : T)
    → StagesPassed kind.slot open1 held0 held1 left0 left1 faults0 faults1
    → PassesStage kind judge view held open1 open2 held1 held2 left1 left2 faults1 faults2 (Ok value)
    → StagesPassed (kind.slot + 1) open2 held0 held2 left0 left2 faults0 faults2
one_more {open2 = open2} {left2 = left2} kind judge view held value before passes = record {
  opened = λ k within. at_next open2 kind.slot k within
      (λ j below. passes.call.stays_open j (before.opened j below)) passes.opened;
  names = λ name. passes.call.names name ∙ before.names name;
  at_end = λ k within. at_next (λ j. IsAtEnd (left2 j)) kind.slot k within
      (λ j below. let P : Option (List ℕ) → Type 0 = λ o. IsAtEnd o in
      subst P (sym (passes.call.other_slots j (omega (arith, below)))) (before.at_end j below))
      passes.ends;
  others = λ k past.
      passes.call.other_slots k (omega (arith, past)) ∙ before.others k (omega (arith, past));
  counts = λ k. passes.call.counts k ∙ before.counts k;
}

-- ---- outcomes of a stage
judged_is : {A : Type 0} (kind : FileKind) (judge : List (Option (List ℕ)) → Result A (List ℕ))
    (next : A → Option Outcome) (bytes : List ℕ) → length bytes ≤ kind.budget
    → stage_of kind judge next bytes ≡ judged kind (judge (file_lines kind bytes)) next
judged_is kind judge next bytes within =
    let short : nat_lt kind.budget (length bytes) ≡ false = grind (arith, nat_tests) in
    ap (λ b. cond b (Some (too_long kind)) (judged kind (judge (file_lines kind bytes)) next)) short

accepted_is : {A : Type 0} (kind : FileKind) (judge : List (Option (List ℕ)) → Result A (List ℕ))
    (next : A → Option Outcome) (bytes : List ℕ) (value : A) → length bytes ≤ kind.budget
    → judge (file_lines kind bytes) ≡ Ok value → stage_of kind judge next bytes ≡ next value
accepted_is kind judge next bytes value within is =
    judged_is kind judge next bytes within ∙ ap (λ answer. judged kind answer next) is

refused_is : {A : Type 0} (kind : FileKind) (judge : List (Option (List ℕ)) → Result A (List ℕ))
    (next : A → Option Outcome) (bytes line : List ℕ) → length bytes ≤ kind.budget
    → judge (file_lines kind bytes) ≡ Err line
    → stage_of kind judge next bytes ≡ Some (refused kind line)
refused_is kind judge next bytes line within is =
    judged_is kind judge next bytes within ∙ ap (λ answer. judged kind answer next) is

too_long_is : {A : Type 0} (kind : FileKind) (judge : List (Option (List ℕ)) → Result A (List ℕ))
    (next : A → Option Outcome) (bytes : List ℕ) → kind.budget < length bytes
    → stage_of kind judge next bytes ≡ Some (too_long kind)
too_long_is kind judge next bytes past =
    let long : nat_lt kind.budget (length bytes) ≡ true = grind (arith, nat_tests) in
    ap (λ b. cond b (Some (too_long kind)) (judged kind (judge (file_lines kind bytes)) next)) long

-- what holds of both refusals of a file and of all that comes next holds of the stage
judged_all : {A : Type 0} (Q : Outcome → Type 0) (kind : FileKind) (answer : Result A (List ℕ))
    (next : A → Option Outcome) → ((line : List ℕ) → Q (refused kind line))
    → ((value : A) → IfSome (next value) Q) → IfSome (judged kind answer next) Q
judged_all Q kind (Ok value) next refusal more = more value
judged_all Q kind (Err line) next refusal more = refusal line

limited_all : (Q : Outcome → Type 0) (b : Bool) (long : Outcome) (rest : Option Outcome) → Q long
    → IfSome rest Q → IfSome (cond b (Some long) rest) Q
limited_all Q true long rest at_long at_rest = at_long
limited_all Q false long rest at_long at_rest = at_rest

stage_all : {A : Type 0} (Q : Outcome → Type 0) (kind : FileKind)
    (judge : List (Option (List ℕ)) → Result A (List ℕ)) (next : A → Option Outcome)
    (held : Option (List ℕ)) → Q (too_long kind) → ((line : List ℕ) → Q (refused kind line))
    → ((value : A) → IfSome (next value) Q) → IfSome (stage kind judge next held) Q
stage_all Q kind judge next None long refusal more = tt
stage_all Q kind judge next (Some bytes) long refusal more =
    limited_all Q (nat_lt kind.budget (length bytes)) (too_long kind)
    (judged kind (judge (file_lines kind bytes)) next) long
    (judged_all Q kind (judge (file_lines kind bytes)) next refusal more)

-- a stage opens at least as many files as its own and all that comes next
pub stage_opens : {A : Type 0} (count : ℕ) (kind : FileKind)
    (judge : List (Option (List ℕ)) → Result A (List ℕ)) (next : A → Option Outcome)
    (held : Option (List ℕ)) → count ≤ kind.slot + 1
    → ((value : A) → IfSome (next value) (λ o. count ≤ o.opened))
    → IfSome (stage kind judge next held) (λ o. count ≤ o.opened)
stage_opens count kind judge next held within more =
    stage_all (λ o. count ≤ o.opened) kind judge next held within (λ line. within) more

-- a stage writes at its end only where all that comes next does
pub stage_waits : {A : Type 0} (kind : FileKind)
    (judge : List (Option (List ℕ)) → Result A (List ℕ)) (next : A → Option Outcome)
    (held : Option (List ℕ)) → ((value : A) → IfSome (next value) (λ o. o.partial ≡ None))
    → IfSome (stage kind judge next held) (λ o. o.partial ≡ None)
stage_waits kind judge next held more =
    stage_all (λ o. o.partial ≡ None) kind judge next held refl (λ line. refl) more

-- ---- nothing was written
nothing_prefix : (was : Option (List ℕ)) (text : List ℕ) → AppendsPrefix was was text
nothing_prefix was text = written_bytes-prefix was was [] text (written_bytes-nothing was)

nothing_interrupted : (partial : Option (List ℕ → List ℕ)) (second_was second_now was : Option (List ℕ))
    → second_now ≡ second_was → Interrupted partial second_was second_now was was
nothing_interrupted None second_was second_now was same = written_bytes-nothing was
nothing_interrupted (Some partial) second_was second_now was same =
    inr (same, written_bytes-nothing was)

waiting_interrupted : (partial : Option (List ℕ → List ℕ)) (second_was second_now was : Option (List ℕ))
    → partial ≡ None → Interrupted partial second_was second_now was was
waiting_interrupted partial second_was second_now was waits =
    let P : Option (List ℕ → List ℕ) → Type 0 =
    λ known. Interrupted known second_was second_now was was in
    subst P (sym waits) (written_bytes-nothing was)

interrupted : {A : Type 0} (kind : FileKind) (judge : List (Option (List ℕ)) → Result A (List ℕ))
    (next : A → Option Outcome) (held : Option (List ℕ)) (second_was second_now was : Option (List ℕ))
    → ((value : A) → IfSome (next value) (λ o. o.partial ≡ None)) ⊎ (second_now ≡ second_was)
    → IfSome (stage kind judge next held) (λ o. IsInterrupted o second_was second_now was was)
interrupted kind judge next held second_was second_now was (inl waits) =
    stage_all (λ o. IsInterrupted o second_was second_now was was) kind judge next held
    (record { prefix = nothing_prefix was []; written = written_bytes-nothing was })
    (λ line. record { prefix = nothing_prefix was []; written = written_bytes-nothing was })
    (λ value. IfSome_then (next value) (waits value) (λ o known. record {
      prefix = nothing_prefix was o.output;
      written = waiting_interrupted o.partial second_was second_now was known;
    }))
interrupted kind judge next held second_was second_now was (inr same) =
    at_any (stage kind judge next held)
  where
    at_any : (outcome : Option Outcome)
        → IfSome outcome (λ o. IsInterrupted o second_was second_now was was)
    at_any None = tt
    at_any (Some o) = record {
      prefix = nothing_prefix was o.output;
      written = nothing_interrupted o.partial second_was second_now was same;
    }

nothing_of_any : (outcome : Option Outcome) (was : Option (List ℕ))
    → IfSome outcome (λ o. AppendsPrefix was was o.output)
nothing_of_any None was = tt
nothing_of_any (Some o) was = nothing_prefix was o.output

-- ---- a stage that stops
stop_answers : {A T : Type 0} (kind : FileKind)
    (judge : List (Option (List ℕ)) → Result A (List ℕ)) (view : T → A)
    (next : A → Option Outcome) (held : Option (List ℕ)) (second_was : Option (List ℕ))
    (left_now : ℕ → Option (List ℕ)) (was : Option (List ℕ)) (c : Complaint)
    → ((value : A) → IfSome (next value) (λ o. o.partial ≡ None)) ⊎ (left_now 1 ≡ second_was)
    → ((k : ℕ) → k < kind.slot → IsAtEnd (left_now k))
    → IfSome held (λ bytes. JudgesFile kind judge view bytes (Err c))
    → EndsStage {T = T} kind left_now (Err c)
    → IfSome (stage kind judge next held) (λ o. Answers o second_was left_now was was (Err c))
stop_answers kind judge view next None second_was left_now was c waits before judges ends = tt
stop_answers kind judge view next (Some bytes) second_was left_now was (Refused line) waits before judges ends =
    let Q : Option Outcome → Type 0 =
    λ known. IfSome known (λ o. Answers o second_was left_now was was (Err (Refused line))) in
    let R : ℕ → Type 0 = λ k. IsAtEnd (left_now k) in
    subst Q (sym (refused_is kind judge next bytes line judges.0 judges.1)) (record {
      status = refl;
      message = refl;
      output = written_bytes-nothing was;
      at_end = λ k within. at_next R kind.slot k within before ends;
    })
stop_answers kind judge view next (Some bytes) second_was left_now was (TooLong r) waits before judges ends =
    let Q : Option Outcome → Type 0 =
    λ known. IfSome known (λ o. Answers o second_was left_now was was (Err (TooLong r))) in
    subst Q (sym (too_long_is kind judge next bytes judges)) (record {
      status = refl;
      message = ap too_long_line (sym ends);
      output = written_bytes-nothing was;
      at_end = before;
    })
stop_answers kind judge view next (Some bytes) second_was left_now was (ReadFailed r) waits before judges ends =
    interrupted kind judge next (Some bytes) second_was (left_now 1) was waits
stop_answers kind judge view next (Some bytes) second_was left_now was WriteFailed waits before judges ends = absurd ends
stop_answers kind judge view next (Some bytes) second_was left_now was OutOfMemory waits before judges ends =
    nothing_of_any (stage kind judge next (Some bytes)) was

stop_counts : (T : Type 0) (roles : List Role) (kind : FileKind) (left_now : ℕ → Option (List ℕ))
    (faults_was faults_now : ℕ → ℕ) (count : ℕ) (c : Complaint)
    → slice_get roles kind.slot ≡ Some kind.role
    → EndsStage {T = T} kind left_now (Err c)
    → FaultCounts (is_read_failed {T = T} (Err c)) kind.slot faults_was faults_now
    → CountsAfter roles faults_was faults_now count count (Err c)
stop_counts T roles kind left_now fw fn count (Refused line) role ends counts =
    record { files = counts; out = refl }
stop_counts T roles kind left_now fw fn count (TooLong r) role ends counts =
    record { files = counts; out = refl }
stop_counts T roles kind left_now fw fn count (ReadFailed r) role ends counts =
    record { slot = kind.slot; is = role ∙ ap Some (sym ends); increased = counts }
stop_counts T roles kind left_now fw fn count WriteFailed role ends counts = absurd ends
stop_counts T roles kind left_now fw fn count OutOfMemory role ends counts =
    record { files = counts; out = refl }

-- the counts of faults since before the stages that were passed
counts_since : (fails : Bool) (slot : ℕ) (a b c : ℕ → ℕ) → ((k : ℕ) → b k ≡ a k)
    → FaultCounts fails slot b c → FaultCounts fails slot a c
counts_since true slot a b c same counts =
    let P : ℕ → Type 0 = λ n. CountIncreased n (c slot) in subst P (same slot) counts
counts_since false slot a b c same counts = λ k. counts k ∙ same k

second_same : {A : Type 0} (next : A → Option Outcome) (slot : ℕ) (a b c : ℕ → Option (List ℕ))
    → ((value : A) → IfSome (next value) (λ o. o.partial ≡ None)) ⊎ (slot ≡ 0)
    → ((k : ℕ) → slot ≤ k → b k ≡ a k) → ((k : ℕ) → k ≢ slot → c k ≡ b k)
    → ((value : A) → IfSome (next value) (λ o. o.partial ≡ None)) ⊎ (c 1 ≡ a 1)
second_same next slot a b c (inl waits) before others = inl waits
second_same next slot a b c (inr first) before others =
    inr (others 1 (omega (arith, first)) ∙ before 1 (omega (arith, first)))

-- a stage stops after those before it were passed
pub stage_stops : {A T : Type 0} {open1 open2 : ℕ → Type 0}
    {held0 held1 held2 : List ℕ → Option (List ℕ)} {left0 left1 left2 : ℕ → Option (List ℕ)}
    {faults0 faults1 faults2 : ℕ → ℕ}
    → (roles : List Role) (kind : FileKind) (judge : List (Option (List ℕ)) → Result A (List ℕ))
    (view : T → A) (next : A → Option Outcome) (held : Option (List ℕ)) (was : Option (List ℕ))
    (count : ℕ) (c : Complaint)
    → slice_get roles kind.slot ≡ Some kind.role
    → ((value : A) → IfSome (next value) (λ o. kind.slot + 1 ≤ o.opened))
    → ((value : A) → IfSome (next value) (λ o. o.partial ≡ None)) ⊎ (kind.slot ≡ 0)
    → StagesPassed kind.slot open1 held0 held1 left0 left1 faults0 faults1
    → PassesStage kind judge view held open1 open2 held1 held2 left1 left2 faults1 faults2 (Err c)
    → Performs roles (stage kind judge next held) open2 left0 left2 faults0 faults2
    was was count count (Err c)
stage_stops {T = T} {left0 = left0} {left1 = left1} {left2 = left2} {faults0 = faults0} {faults1 = faults1} {faults2 = faults2}
    roles kind judge view next held was count c role opens waits before passes = record {
      answers = stop_answers kind judge view next held (left0 1) left2 was c
          (second_same next kind.slot left0 left1 left2 waits before.others passes.call.other_slots)
          (λ k below. let P : Option (List ℕ) → Type 0 = λ o. IsAtEnd o in
          subst P (sym (passes.call.other_slots k (omega (arith, below)))) (before.at_end k below))
          passes.judges passes.ends;
      unchanged = stage_all (λ o. UnchangedFrom o.opened left0 left2 faults0 faults2)
          kind judge next held later (λ line. later)
          (λ value. IfSome_then (next value) (opens value)
          (λ o enough k past. later k (omega (arith, enough, past))));
      counts = stop_counts T roles kind left2 faults0 faults2 count c role passes.ends
          (counts_since (is_read_failed {T = T} (Err c)) kind.slot faults0 faults1 faults2 before.counts passes.call.counts);
      opened = inr (written_bytes-nothing was);
    }
  where
    later : UnchangedFrom (kind.slot + 1) left0 left2 faults0 faults2
    later = λ k past. (
      passes.call.other_slots k (omega (arith, past)) ∙ before.others k (omega (arith, past)),
      passes.call.other_counts k (omega (arith, past)) ∙ before.counts k,
    )

-- ---- a stage that is passed
-- what comes after a stage is what the command performs from that stage on
pub stage_through : {A T : Type 0} {open_now : ℕ → Type 0} {left_was left_now : ℕ → Option (List ℕ)}
    {faults_was faults_now : ℕ → ℕ} {was now : Option (List ℕ)} {count_was count_now : ℕ}
    {result : Result Completion Complaint}
    → (roles : List Role) (kind : FileKind) (judge : List (Option (List ℕ)) → Result A (List ℕ))
    (view : T → A) (next : A → Option Outcome) (held : Option (List ℕ)) (value : T)
    → IfSome held (λ bytes. JudgesFile kind judge view bytes (Ok value))
    → Performs roles (next (view value)) open_now left_was left_now faults_was faults_now
    was now count_was count_now result
    → Performs roles (stage kind judge next held) open_now left_was left_now faults_was faults_now
    was now count_was count_now result
stage_through roles kind judge view next None value judges performs = record {
  answers = tt;
  unchanged = tt;
  counts = performs.counts;
  opened = performs.opened;
}
stage_through {open_now = open_now} {left_was = left_was} {left_now = left_now}
    {faults_was = faults_was} {faults_now = faults_now} {was = was} {now = now}
    {count_was = count_was} {count_now = count_now} {result = result}
    roles kind judge view next (Some bytes) value judges performs =
    let P : Option Outcome → Type 0 =
    λ known. Performs roles known open_now left_was left_now faults_was faults_now
    was now count_was count_now result in
    subst P (sym (accepted_is kind judge next bytes (view value) judges.0 judges.1)) performs

-- ---- the end of a command
-- all files were read and accepted, and the text was written
pub text_written : {open_now : ℕ → Type 0} {held_was held_now : List ℕ → Option (List ℕ)}
    {left_was left_now : ℕ → Option (List ℕ)} {faults_was faults_now : ℕ → ℕ}
    → (roles : List Role) (completion : Completion) (text : List ℕ) (was now : Option (List ℕ))
    (count_was count_now : ℕ) (result : Result Completion Complaint)
    → StagesPassed (length roles) open_now held_was held_now left_was left_now faults_was faults_now
    → WritesText text completion was now count_was count_now result
    → Performs roles (Some (written (length roles) (completion_status completion) text)) open_now
    left_was left_now faults_was faults_now was now count_was count_now result
text_written roles completion text was now cw cn (Ok ends) passed wrote = record {
  answers = record {
    status = ap completion_status (sym wrote.0);
    message = refl;
    output = wrote.1;
    at_end = passed.at_end;
  };
  unchanged = λ k past. (passed.others k past, passed.counts k);
  counts = record { files = passed.counts; out = wrote.2 };
  opened = inl passed.opened;
}
text_written roles completion text was now cw cn (Err WriteFailed) passed wrote = record {
  answers = wrote.0;
  unchanged = λ k past. (passed.others k past, passed.counts k);
  counts = wrote.1;
  opened = inl passed.opened;
}
text_written roles completion text was now cw cn (Err (Refused line)) passed wrote = absurd wrote
text_written roles completion text was now cw cn (Err (TooLong r)) passed wrote = absurd wrote
text_written roles completion text was now cw cn (Err (ReadFailed r)) passed wrote = absurd wrote
text_written roles completion text was now cw cn (Err OutOfMemory) passed wrote = absurd wrote

-- memory was refused after these stages, before anything was written
pub memory_refused : {open_now : ℕ → Type 0} {held_was held_now : List ℕ → Option (List ℕ)}
    {left_was left_now : ℕ → Option (List ℕ)} {faults_was faults_now : ℕ → ℕ}
    → (count : ℕ) (roles : List Role) (outcome : Option Outcome) (was : Option (List ℕ))
    (faults : ℕ) → IfSome outcome (λ o. count ≤ o.opened)
    → StagesPassed count open_now held_was held_now left_was left_now faults_was faults_now
    → Performs roles outcome open_now left_was left_now faults_was faults_now
    was was faults faults (Err OutOfMemory)
memory_refused count roles outcome was faults opens passed = record {
  answers = nothing_of_any outcome was;
  unchanged = IfSome_then outcome opens
      (λ o enough k past. (passed.others k (omega (arith, enough, past)), passed.counts k));
  counts = record { files = passed.counts; out = refl };
  opened = inr (written_bytes-nothing was);
}
