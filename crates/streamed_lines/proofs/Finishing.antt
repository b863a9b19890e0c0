-- What a trace leaves after what waits was written.
use Rattle.std.proofs.Common.{◌≡◌, ◌⊎◌, inl, inr, ℕ, ◌-◌, Bool, true, false, List, [], ◌++◌, take}
use Rattle.std.proofs.Common.{Option, None, Some, IfSome, Result, Ok, Err}
use Rattle.std.proofs.Common.{ap, refl, sym, ◌∙◌, cond, arith, subst}
use Rattle.std.proofs.lemmas.List.{append-nil}
use Rattle.std.specs.Io.KnownBytes.{Appends}
use Rattle.byte_edge.specs.Devices.{AppendsPrefix, CountIncreased, FaultCounts, IsCallOn}
use Rattle.byte_edge.specs.Lines.{LineEvent, line_events, raw_lines, newlines}
use Rattle.byte_edge.specs.ReaderState.{ReaderState, WhenKnown, ahead, to_come}
use Rattle.byte_edge.proofs.PublicLaws.{known_bytes-map, known_bytes-start}
use Rattle.byte_edge.proofs.PublicLaws.{written_bytes-nothing, written_bytes-same, written_bytes-prefix}
use Rattle.command_outputs.specs.Commands.{CountsUnchanged, IsInterrupted}
use Rattle.command_outputs.specs.Steps.{is_read_failed}
use Rattle.command_outputs.specs.declared.complaint.Complaint.{Complaint}
use Rattle.command_outputs.specs.declared.complaint.Complaint.TheVariants.{Refused, TooLong}
use Rattle.command_outputs.specs.declared.complaint.Complaint.TheVariants.{ReadFailed, WriteFailed}
use Rattle.command_outputs.specs.declared.complaint.Complaint.TheVariants.{OutOfMemory}
use Rattle.command_outputs.specs.declared.completion.Completion.{Completion}
use Rattle.command_outputs.specs.declared.completion.Completion.TheVariants.{Done}
use Rattle.command_outputs.specs.declared.role.Role.TheVariants.{Trace}
use Rattle.streamed_lines.specs.Printers.{EndsStream, PrintsFile, StreamCounts, StreamsTrace}
use Rattle.streamed_lines.specs.Streams.{Printed, streamed, text_of_taken, trace_events}
use Rattle.streamed_lines.specs.internal.Waiting.{EndsWaiting, Finishes, Holding, OutCount}
use Rattle.streamed_lines.specs.internal.Waiting.{PrintsLines, StreamCalls, Waits, has_rest}
use Rattle.streamed_lines.specs.internal.Waiting.{is_write_failed}
use Rattle.streamed_lines.proofs.Progress.{holding_written, holding_cut}

-- the text is all there is
whole : (text : List ℕ) → text ≡ text ++ []
whole text = sym (append-nil text)

-- ---- what is printed
prints_finished : (print : List LineEvent → Printed) (lines : List LineEvent) (lay : ℕ)
    (left : List ℕ) (was mid now : Option (List ℕ)) (waiting : List ℕ) (f0 f1 : ℕ)
    (ended : Result (Unit {0}) Complaint) (result : Result Completion Complaint)
    → Waits print lines lay left was mid waiting ended
    → Finishes waiting ended mid now f0 f1 result
    → PrintsLines print lines lay left was now result
prints_finished print lines lay left was mid now waiting f0 f1 (Ok done) result w (inl f) =
    let P : Result Completion Complaint → Type 0 = λ r. PrintsLines print lines lay left was now r in
    subst P (sym f.0) (w.ends, refl, holding_written was mid now waiting _ w.holding f.1)
prints_finished print lines lay left was mid now waiting f0 f1 (Ok done) result w (inr f) =
    let P : Result Completion Complaint → Type 0 = λ r. PrintsLines print lines lay left was now r in
    subst P (sym f.1) (holding_cut was mid now waiting _ _ [] w.holding f.2 (whole (print lines).text))
prints_finished print lines lay left was mid now waiting f0 f1 (Err (Refused message)) result w (inl f) =
    let P : Result Completion Complaint → Type 0 = λ r. PrintsLines print lines lay left was now r in
    subst P (sym f.0) (w.ends, holding_written was mid now waiting _ w.holding f.1)
prints_finished print lines lay left was mid now waiting f0 f1 (Err (Refused message)) result w (inr f) =
    let P : Result Completion Complaint → Type 0 = λ r. PrintsLines print lines lay left was now r in
    subst P (sym f.1) (holding_cut was mid now waiting _ _ [] w.holding f.2 (whole (print lines).text))
prints_finished print lines lay left was mid now waiting f0 f1 (Err (TooLong r)) result w (inl f) =
    let P : Result Completion Complaint → Type 0 = λ r. PrintsLines print lines lay left was now r in
    subst P (sym f.0) (w.ends, holding_written was mid now waiting _ w.holding f.1)
prints_finished print lines lay left was mid now waiting f0 f1 (Err (TooLong r)) result w (inr f) =
    let P : Result Completion Complaint → Type 0 = λ r. PrintsLines print lines lay left was now r in
    subst P (sym f.1) (holding_cut was mid now waiting _ _ [] w.holding f.2 (whole (print lines).text))
prints_finished print lines lay left was mid now waiting f0 f1 (Err (ReadFailed r)) result w (inl f) =
    let P : Result Completion Complaint → Type 0 = λ r. PrintsLines print lines lay left was now r in
    let Q : List ℕ → Type 0 = λ bytes. AppendsPrefix was now bytes in
    let wrote = holding_written was mid now waiting _ w.holding f.1 in
    subst P (sym f.0) (record {
      count = w.count;
      taken = w.taken;
      written = wrote;
      prefix = subst Q (sym w.is) (written_bytes-prefix was now _ w.rest wrote);
    })
prints_finished print lines lay left was mid now waiting f0 f1 (Err (ReadFailed r)) result w (inr f) =
    let P : Result Completion Complaint → Type 0 = λ r. PrintsLines print lines lay left was now r in
    subst P (sym f.1) (holding_cut was mid now waiting _ _ w.rest w.holding f.2 w.is)
prints_finished print lines lay left was mid now waiting f0 f1 (Err WriteFailed) result w (inl f) =
    let P : Result Completion Complaint → Type 0 = λ r. PrintsLines print lines lay left was now r in
    let Q : Option (List ℕ) → Type 0 = λ o. AppendsPrefix was o (print lines).text in
    subst P (sym f.0) (subst Q (sym f.1) w)
prints_finished print lines lay left was mid now waiting f0 f1 (Err WriteFailed) result w (inr f) =
    absurd (let e : false ≡ true = f.0 in cc)
prints_finished print lines lay left was mid now waiting f0 f1 (Err OutOfMemory) result w (inl f) =
    let P : Result Completion Complaint → Type 0 = λ r. PrintsLines print lines lay left was now r in
    let Q : Option (List ℕ) → Type 0 = λ o. AppendsPrefix was o (print lines).text in
    subst P (sym f.0) (subst Q (sym f.1) w)
prints_finished print lines lay left was mid now waiting f0 f1 (Err OutOfMemory) result w (inr f) =
    absurd (let e : false ≡ true = f.0 in cc)

-- the same over the bytes of the trace
prints_file : (print : List LineEvent → Printed) (trace left : List ℕ)
    (slot was now : Option (List ℕ)) (result : Result Completion Complaint)
    → PrintsLines print (trace_events trace) (newlines trace) left was now result
    → PrintsFile print trace slot (Some left) was now result
prints_file print trace left slot was now (Ok completion) p = p
prints_file print trace left slot was now (Err (Refused message)) p = p
prints_file print trace left slot was now (Err (TooLong r)) p = p
prints_file print trace left slot was now (Err (ReadFailed r)) p =
    let number : p.count ≡ newlines trace - newlines left = omega (arith, p.taken) in
    record {
      prefix = p.prefix;
      written = inl (
        left,
        refl,
        written_bytes-same was now _ _
            (ap (λ n. (print (take n (trace_events trace))).text) number) p.written,
      );
    }
prints_file print trace left slot was now (Err WriteFailed) p = p
prints_file print trace left slot was now (Err OutOfMemory) p = p

-- a reader that has read nothing has all of the trace before it
ahead-fresh : (reader : ReaderState) (left : List ℕ) → reader.held ≡ [] → reader.ended ≡ false
    → ahead reader left ≡ left
ahead-fresh reader left held ended =
    ap (λ bytes. bytes ++ cond reader.ended [] left) held ∙ ap (λ b. cond b [] left) ended

to_come-fresh : (reader : ReaderState) (left : List ℕ) → reader.held ≡ [] → reader.ended ≡ false
    → reader.limit ≡ 65536 → reader.room ≡ 4294967296 → to_come reader left ≡ trace_events left
to_come-fresh reader left held ended limit room =
    ap (λ bytes. line_events reader.limit reader.room (raw_lines bytes)) (ahead-fresh reader left held ended)
    ∙ ap (λ n. line_events n reader.room (raw_lines left)) limit
    ∙ ap (λ n. line_events 65536 n (raw_lines left)) room

prints_fresh : (print : List LineEvent → Printed) (reader : ReaderState) (before after : List ℕ)
    (was now : Option (List ℕ)) (result : Result Completion Complaint)
    → reader.held ≡ [] → reader.ended ≡ false → reader.limit ≡ 65536 → reader.room ≡ 4294967296
    → PrintsLines print (to_come reader before) (newlines (ahead reader before)) after was now result
    → PrintsLines print (trace_events before) (newlines before) after was now result
prints_fresh print reader before after was now result held ended limit room p =
    let P : List LineEvent → Type 0 = λ lines. PrintsLines print lines (newlines before) after was now result in
    let Q : List ℕ → Type 0 =
    λ bytes. PrintsLines print (to_come reader before) (newlines bytes) after was now result in
    subst P (to_come-fresh reader before held ended limit room)
    (subst Q (ahead-fresh reader before held ended) p)

-- what an opened trace leaves, whatever its slot held before
pub opened_prints : (print : List LineEvent → Printed) (reader : ReaderState)
    (left0 left was mid now : Option (List ℕ)) (waiting : List ℕ) (f0 f1 : ℕ)
    (ended : Result (Unit {0}) Complaint) (result : Result Completion Complaint)
    → reader.held ≡ [] → reader.ended ≡ false → reader.limit ≡ 65536 → reader.room ≡ 4294967296
    → WhenKnown left0 left (λ before after. Waits print (to_come reader before)
    (newlines (ahead reader before)) after was mid waiting ended)
    → Finishes waiting ended mid now f0 f1 result
    → WhenKnown left0 left (λ before after.
    (slot : Option (List ℕ)) → PrintsFile print before slot (Some after) was now result)
opened_prints print reader left0 left was mid now waiting f0 f1 ended result held wakes limit room waits finishes =
    known_bytes-map left0 left _ _ waits
    (λ before after w slot. prints_file print before after slot was now result
    (prints_fresh print reader before after was now result held wakes limit room
    (prints_finished print (to_come reader before) (newlines (ahead reader before)) after was mid now waiting f0 f1 ended result w finishes)))

-- memory was refused before the trace was read
nothing_prefix : (was : Option (List ℕ)) (text : List ℕ) → AppendsPrefix was was text
nothing_prefix was text = written_bytes-prefix was was [] text (written_bytes-nothing was)

pub unread_prints : (print : List LineEvent → Printed) (left was : Option (List ℕ))
    → WhenKnown left left (λ before after.
    (slot : Option (List ℕ)) → PrintsFile print before slot (Some after) was was (Err OutOfMemory))
unread_prints print left was =
    known_bytes-start left
    (λ before after. (slot : Option (List ℕ)) → PrintsFile print before slot (Some after) was was (Err OutOfMemory))
    (λ bytes slot. nothing_prefix was (print (trace_events bytes)).text)

-- ---- what is left
pub finished_ends : (left_now : ℕ → Option (List ℕ)) (mid now : Option (List ℕ)) (waiting : List ℕ)
    (f0 f1 : ℕ) (ended : Result (Unit {0}) Complaint) (result : Result Completion Complaint)
    → EndsStream left_now ended → Finishes waiting ended mid now f0 f1 result
    → EndsStream left_now result
finished_ends left_now mid now waiting f0 f1 ended result ends (inr f) =
    let P : Result Completion Complaint → Type 0 = λ r. EndsStream left_now r in
    subst P (sym f.1) tt
finished_ends left_now mid now waiting f0 f1 (Ok done) result ends (inl f) =
    let P : Result Completion Complaint → Type 0 = λ r. EndsStream left_now r in
    subst P (sym f.0) ends
finished_ends left_now mid now waiting f0 f1 (Err c) result ends (inl f) =
    let P : Result Completion Complaint → Type 0 = λ r. EndsStream left_now r in
    subst P (sym f.0) (same_ends c ends)
  where
    same_ends : (c : Complaint) → EndsStream {T = Unit {0}} left_now (Err c)
        → EndsStream {T = Completion} left_now (Err c)
    same_ends (Refused message) ends = ends
    same_ends (TooLong r) ends = ends
    same_ends (ReadFailed r) ends = ends
    same_ends WriteFailed ends = ends
    same_ends OutOfMemory ends = ends

-- the counts of faults, where the lines ended so and the output's count is then as it was
counts_same : (slot : ℕ) (fw fn : ℕ → ℕ) (f0 f1 f2 : ℕ) (c : Complaint)
    → FaultCounts (is_read_failed {T = Unit {0}} (Err c)) 1 fw fn → OutCount (is_write_failed (Err c)) f0 f1 → f2 ≡ f1
    → StreamCounts {T = Completion} fw fn f0 f2 (Err c)
counts_same slot fw fn f0 f1 f2 (Refused message) files out same = record { files = files; out = same ∙ out }
counts_same slot fw fn f0 f1 f2 (TooLong r) files out same = record { files = files; out = same ∙ out }
counts_same slot fw fn f0 f1 f2 (ReadFailed r) files out same = files
counts_same slot fw fn f0 f1 f2 WriteFailed files out same =
    let P : ℕ → Type 0 = λ n. CountIncreased f0 n in subst P (sym same) out
counts_same slot fw fn f0 f1 f2 OutOfMemory files out same = record { files = files; out = same ∙ out }

-- the output's count is as it was where something is still to be written
out_same : (ended : Result (Unit {0}) Complaint) (f0 f1 : ℕ) → has_rest ended ≡ true
    → OutCount (is_write_failed ended) f0 f1 → f1 ≡ f0
out_same (Ok done) f0 f1 rest out = out
out_same (Err (Refused message)) f0 f1 rest out = out
out_same (Err (TooLong r)) f0 f1 rest out = out
out_same (Err (ReadFailed r)) f0 f1 rest out = out
out_same (Err WriteFailed) f0 f1 rest out = absurd (let e : false ≡ true = rest in cc)
out_same (Err OutOfMemory) f0 f1 rest out = out

finished_counts : (fw fn : ℕ → ℕ) (f0 f1 f2 : ℕ) (mid now : Option (List ℕ)) (waiting : List ℕ)
    (ended : Result (Unit {0}) Complaint) (result : Result Completion Complaint)
    → FaultCounts (is_read_failed ended) 1 fw fn → OutCount (is_write_failed ended) f0 f1
    → Finishes waiting ended mid now f1 f2 result → StreamCounts fw fn f0 f2 result
finished_counts fw fn f0 f1 f2 mid now waiting ended result files out (inr f) =
    let P : Result Completion Complaint → Type 0 = λ r. StreamCounts fw fn f0 f2 r in
    let Q : ℕ → Type 0 = λ n. CountIncreased n f2 in
    subst P (sym f.1) (subst Q (out_same ended f0 f1 f.0 out) f.3)
finished_counts fw fn f0 f1 f2 mid now waiting (Ok done) result files out (inl f) =
    let P : Result Completion Complaint → Type 0 = λ r. StreamCounts fw fn f0 f2 r in
    subst P (sym f.0) (record { files = files; out = f.2 ∙ out })
finished_counts fw fn f0 f1 f2 mid now waiting (Err c) result files out (inl f) =
    let P : Result Completion Complaint → Type 0 = λ r. StreamCounts fw fn f0 f2 r in
    subst P (sym f.0) (counts_same 1 fw fn f0 f1 f2 c files out f.2)

pub finished_calls : {open_was open_now : ℕ → Type 0} {held_was held_now : List ℕ → Option (List ℕ)}
    {left_was left_now : ℕ → Option (List ℕ)} {faults_was faults_now : ℕ → ℕ}
    → (f0 f1 f2 : ℕ) (mid now : Option (List ℕ)) (waiting : List ℕ)
    (ended : Result (Unit {0}) Complaint) (result : Result Completion Complaint)
    → IsCallOn 1 (is_read_failed ended) open_was open_now held_was held_now left_was left_now faults_was faults_now
    → OutCount (is_write_failed ended) f0 f1
    → Finishes waiting ended mid now f1 f2 result
    → StreamCalls open_was open_now left_was left_now faults_was faults_now f0 f2 result
finished_calls {faults_was = faults_was} {faults_now = faults_now} f0 f1 f2 mid now waiting ended result call out finishes = record {
  stays_open = call.stays_open;
  other_slots = call.other_slots;
  other_counts = call.other_counts;
  counts = finished_counts faults_was faults_now f0 f1 f2 mid now waiting ended result call.counts out finishes;
}

-- ---- the open before
-- what is known after the open is known of what is held under the name
held_prints : (print : List LineEvent → Printed) (held left0 left slot was now : Option (List ℕ))
    (result : Result Completion Complaint) → left0 ≡ held
    → WhenKnown left0 left (λ before after.
    (slot : Option (List ℕ)) → PrintsFile print before slot (Some after) was now result)
    → IfSome held (λ trace. PrintsFile print trace slot left was now result)
held_prints print None left0 left slot was now result is known = tt
held_prints print (Some trace) left0 None slot was now result is known =
    let P : Option (List ℕ) → Type 0 = λ o. WhenKnown o None (λ before after.
    (slot : Option (List ℕ)) → PrintsFile print before slot (Some after) was now result) in
    absurd (subst P is known)
held_prints print (Some trace) left0 (Some after) slot was now result is known =
    let P : Option (List ℕ) → Type 0 = λ o. WhenKnown o (Some after) (λ before after.
    (slot : Option (List ℕ)) → PrintsFile print before slot (Some after) was now result) in
    subst P is known slot

counts_since : (fw fm fn : ℕ → ℕ) (f0 f1 : ℕ) (result : Result Completion Complaint)
    → ((k : ℕ) → fm k ≡ fw k) → StreamCounts fm fn f0 f1 result → StreamCounts fw fn f0 f1 result
counts_since fw fm fn f0 f1 (Ok completion) same counts =
    record { files = λ k. counts.files k ∙ same k; out = counts.out }
counts_since fw fm fn f0 f1 (Err (Refused message)) same counts =
    record { files = λ k. counts.files k ∙ same k; out = counts.out }
counts_since fw fm fn f0 f1 (Err (TooLong r)) same counts =
    record { files = λ k. counts.files k ∙ same k; out = counts.out }
counts_since fw fm fn f0 f1 (Err (ReadFailed r)) same counts =
    let P : ℕ → Type 0 = λ n. CountIncreased n (fn 1) in subst P (same 1) counts
counts_since fw fm fn f0 f1 (Err WriteFailed) same counts = counts
counts_since fw fm fn f0 f1 (Err OutOfMemory) same counts =
    record { files = λ k. counts.files k ∙ same k; out = counts.out }

-- the trace was opened, and then printed
pub opened_streams : {open0 open1 open2 : ℕ → Type 0} {held0 held1 : List ℕ → Option (List ℕ)}
    {left0 left1 left2 : ℕ → Option (List ℕ)} {faults0 faults1 faults2 : ℕ → ℕ}
    → (print : List LineEvent → Printed) (held was now : Option (List ℕ)) (f0 f1 : ℕ)
    (result : Result Completion Complaint)
    → open1 1 → left1 1 ≡ held
    → IsCallOn 1 false open0 open1 held0 held1 left0 left1 faults0 faults1
    → WhenKnown (left1 1) (left2 1) (λ before after.
    (slot : Option (List ℕ)) → PrintsFile print before slot (Some after) was now result)
    → EndsStream left2 result
    → StreamCalls open1 open2 left1 left2 faults1 faults2 f0 f1 result
    → StreamsTrace print held open0 open2 left0 left2 faults0 faults2 was now f0 f1 result
opened_streams {left0 = left0} {left1 = left1} {left2 = left2} {faults0 = faults0} {faults1 = faults1} {faults2 = faults2}
    print held was now f0 f1 result opened placed call prints ends calls = record {
      prints = held_prints print held (left1 1) (left2 1) (left0 1) was now result placed prints;
      ends = ends;
      opened = inl (calls.stays_open 1 opened);
      stays_open = λ k is. calls.stays_open k (call.stays_open k is);
      other_slots = λ k other. calls.other_slots k other ∙ call.other_slots k other;
      other_counts = λ k other. calls.other_counts k other ∙ call.other_counts k other;
      counts = counts_since faults0 faults1 faults2 f0 f1 result call.counts calls.counts;
    }

-- the trace could not be opened
unopened_prints : (print : List LineEvent → Printed) (held slot_was slot_now was : Option (List ℕ))
    → slot_now ≡ slot_was
    → IfSome held (λ trace. PrintsFile print trace slot_was slot_now was was (Err (ReadFailed Trace)))
unopened_prints print None slot_was slot_now was same = tt
unopened_prints print (Some trace) slot_was slot_now was same = record {
  prefix = nothing_prefix was (print (trace_events trace)).text;
  written = inr (same, written_bytes-nothing was);
}

pub unopened_streams : {open0 open1 : ℕ → Type 0} {held0 held1 : List ℕ → Option (List ℕ)}
    {left0 left1 : ℕ → Option (List ℕ)} {faults0 faults1 : ℕ → ℕ}
    → (print : List LineEvent → Printed) (held was : Option (List ℕ)) (f : ℕ)
    → left1 1 ≡ left0 1
    → IsCallOn 1 true open0 open1 held0 held1 left0 left1 faults0 faults1
    → StreamsTrace print held open0 open1 left0 left1 faults0 faults1 was was f f (Err (ReadFailed Trace))
unopened_streams {left0 = left0} {left1 = left1} print held was f same call = record {
  prints = unopened_prints print held (left0 1) (left1 1) was same;
  ends = refl;
  opened = inr (written_bytes-nothing was);
  stays_open = call.stays_open;
  other_slots = call.other_slots;
  other_counts = call.other_counts;
  counts = call.counts;
}
