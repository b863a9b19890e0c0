-- What a reader may report of a line that it has taken.
use Rattle.std.proofs.Common.{◌≡◌, ◌⊎◌, ℕ, suc, zero, ◌+◌, ◌-◌, ◌<◌, ◌≤◌, leb, Bool, true, false, cond, List, [], ◌∷◌, ◌++◌, length, take, Some, None, Option, inl, inr, refl, sym, ◌∙◌, ap, subst, arith, length-append, length-take, append_assoc, append-nil}
use Rattle.std.proofs.lemmas.List.{take_all, take_at, drop_at}
use Rattle.std.proofs.lemmas.Bool.{cases_lt, le-leb, lt-leb}
use Rattle.std.specs.Io.KnownBytes.{Consumes, IsAtEnd, prepend_known}
use Rattle.std.specs.Io.BufRead.{strip_last, ends_with_byte}
use Rattle.byte_edge.specs.Lines.{raw_lines, newlines, line_text, LineEvent, Whole, OverLong, PastBudget, line_events, line_event_of, IsWholeLine}
use Rattle.byte_edge.specs.internal.LineParts.{IsOver}
use Rattle.byte_edge.specs.ReaderState.{ReaderState, ahead, to_come, WhenKnown, ReportsFirst, ReportsLine, ReportsEnd, ReportsPastBudget, IsRestOfLine, ReportsFault}
use Rattle.byte_edge.proofs.Lines.{newlines-append, raw_lines-whole, raw_lines-last, raw_lines-longer}

-- the end of a line takes at most one byte
length-strip_last : (byte : ℕ) (xs : List ℕ) → length xs ≤ length (strip_last byte xs) + 1
length-strip_last byte xs = at (ends_with_byte byte xs)
  where
    at : (b : Bool) → length xs ≤ length (cond b (take (length xs - 1) xs) xs) + 1
    at true = omega (arith, length-take (length xs - 1) xs)
    at false = omega arith

-- the end of a line takes at most two bytes
length-line_text : (raw : List ℕ) → length raw ≤ length (line_text raw) + 2
length-line_text raw = omega (arith, length-strip_last 10 raw, length-strip_last 13 (strip_last 10 raw))

strip_last-short : (byte : ℕ) (xs : List ℕ) → length (strip_last byte xs) ≤ length xs
strip_last-short byte xs = at (ends_with_byte byte xs)
  where
    at : (b : Bool) → length (cond b (take (length xs - 1) xs) xs) ≤ length xs
    at true = omega (arith, length-take (length xs - 1) xs)
    at false = omega arith

-- a line without its end is no longer
pub line_text-short : (raw : List ℕ) → length (line_text raw) ≤ length raw
line_text-short raw = omega (arith, strip_last-short 10 raw, strip_last-short 13 (strip_last 10 raw))

over_long : (limit : ℕ) (raw : List ℕ) → limit + 3 ≤ length raw → line_event_of limit raw ≡ OverLong
over_long limit raw long =
    let past : leb (length (line_text raw)) limit ≡ false = lt-leb _ _ (omega (arith, length-line_text raw)) in
    ap (λ b. cond b (Whole (line_text raw)) OverLong) past

-- the first bytes of a line are enough to report it
pub line_event_of-take : (limit : ℕ) (raw : List ℕ) → line_event_of limit (take (limit + 3) raw) ≡ line_event_of limit raw
line_event_of-take limit raw = by (cases_lt (limit + 3) (length raw))
  where
    by : ((limit + 3 < length raw) ⊎ (length raw ≤ limit + 3)) → line_event_of limit (take (limit + 3) raw) ≡ line_event_of limit raw
    by (inl long) = over_long limit (take (limit + 3) raw) (omega (arith, length-take (limit + 3) raw)) ∙ sym (over_long limit raw (omega arith))
    by (inr short) = ap (line_event_of limit) (take_all (limit + 3) raw short)

-- the text of a line that is not too long
pub line_event_of-whole : (limit most : ℕ) (raw kept text : List ℕ) → most ≡ limit + 3 → kept ≡ take most raw → text ≡ line_text kept → length text ≤ limit → line_event_of limit raw ≡ Whole text
line_event_of-whole limit most raw kept text room is text_is short =
    let same : text ≡ line_text (take (limit + 3) raw) = text_is ∙ ap line_text (is ∙ ap (λ n. take n raw) room) in
    let within : leb (length (line_text (take (limit + 3) raw))) limit ≡ true = le-leb _ _ (omega (arith, ap length same)) in
    sym (line_event_of-take limit raw) ∙ ap (λ b. cond b (Whole (line_text (take (limit + 3) raw))) OverLong) within ∙ ap Whole (sym same)

pub line_event_of-over : (limit most : ℕ) (raw kept text : List ℕ) → most ≡ limit + 3 → kept ≡ take most raw → text ≡ line_text kept → limit < length text → line_event_of limit raw ≡ OverLong
line_event_of-over limit most raw kept text room is text_is long =
    let same : text ≡ line_text (take (limit + 3) raw) = text_is ∙ ap line_text (is ∙ ap (λ n. take n raw) room) in
    let past : leb (length (line_text (take (limit + 3) raw))) limit ≡ false = lt-leb _ _ (omega (arith, ap length same)) in
    sym (line_event_of-take limit raw) ∙ ap (λ b. cond b (Whole (line_text (take (limit + 3) raw))) OverLong) past

-- the first line of those ahead, where it is within the budget
line_events-first : (limit room new_room : ℕ) (raw : List ℕ) (rest : List (List ℕ)) → length raw + new_room ≡ room → line_events limit room (raw ∷ rest) ≡ line_event_of limit raw ∷ line_events limit new_room rest
line_events-first limit room new_room raw rest paid =
    let within : leb (length raw) room ≡ true = le-leb _ _ (omega arith) in
    let left : room - length raw ≡ new_room = omega arith in
    ap (λ b. cond b (line_event_of limit raw ∷ line_events limit (room - length raw) rest) (PastBudget ∷ [])) within ∙ ap (λ n. line_event_of limit raw ∷ line_events limit n rest) left

line_events-past : (limit room : ℕ) (raw : List ℕ) (rest : List (List ℕ)) → room < length raw → line_events limit room (raw ∷ rest) ≡ PastBudget ∷ []
line_events-past limit room raw rest over =
    let past : leb (length raw) room ≡ false = lt-leb _ _ (omega arith) in
    ap (λ b. cond b (line_event_of limit raw ∷ line_events limit (room - length raw) rest) (PastBudget ∷ [])) past

-- the bytes ahead of a reader that has not ended
ahead-going : (reader : ReaderState) (left : List ℕ) → reader.ended ≡ false → ahead reader left ≡ reader.held ++ left
ahead-going reader left going = ap (λ b. reader.held ++ cond b [] left) going

ahead-ended : (reader : ReaderState) (left : List ℕ) → reader.ended ≡ true → reader.held ≡ [] → ahead reader left ≡ []
ahead-ended reader left ended empty = ap (λ b. reader.held ++ cond b [] left) ended ∙ append-nil reader.held ∙ empty

-- the first line was taken
first_taken : (old new : ReaderState) (raw before after : List ℕ) → new.limit ≡ old.limit → length raw + new.room ≡ old.room
    → before ≡ raw ++ after → raw_lines before ≡ raw ∷ raw_lines after → newlines before ≡ newlines after + cond new.ended 0 1
    → (xs ys : List ℕ) → ahead old xs ≡ before → ahead new ys ≡ after → ReportsFirst (line_event_of old.limit raw) old new xs ys
first_taken old new raw before after limit paid split lines_are counted xs ys old_ahead new_ahead =
    let spent : old.room - new.room ≡ length raw = omega arith in
    let front : take (old.room - new.room) before ≡ raw = rw (spent, split) (take_at raw after (length raw) refl) in
    record {
      events = rw (old_ahead, new_ahead, lines_are, limit) (line_events-first old.limit old.room new.room raw (raw_lines after) paid);
      split = rw (old_ahead, new_ahead, front) split;
      raw = rw (old_ahead, new_ahead, front) lines_are;
      paid = rw (old_ahead, front) paid;
      counted = rw (old_ahead, new_ahead) counted;
    }

-- a line with its LF
whole_first : (old new : ReaderState) (raw xs ys : List ℕ) → new.limit ≡ old.limit → old.ended ≡ false → new.ended ≡ false → IsWholeLine raw
    → length raw + new.room ≡ old.room → old.held ++ xs ≡ raw ++ (new.held ++ ys) → ReportsFirst (line_event_of old.limit raw) old new xs ys
whole_first old new raw xs ys limit old_going new_going whole paid split =
    let after = new.held ++ ys in
    let split_text : raw ++ after ≡ whole.text ++ 10 ∷ after = ap (λ l. l ++ after) whole.is ∙ append_assoc whole.text (10 ∷ []) after in
    let lines_are : raw_lines (raw ++ after) ≡ raw ∷ raw_lines after = ap raw_lines split_text ∙ raw_lines-whole whole.text after whole.only ∙ ap (λ l. l ∷ raw_lines after) (sym whole.is) in
    let one : newlines raw ≡ 1 = ap newlines whole.is ∙ newlines-append whole.text (10 ∷ []) ∙ ap (λ n. n + 1) whole.only in
    first_taken old new raw (raw ++ after) after limit paid refl lines_are
    (rw new_going (omega (arith, newlines-append raw after, one)))
    xs ys (ahead-going old xs old_going ∙ split) (ahead-going new ys new_going)

-- the facts of one line, where the bytes are known
where_consumed : (held rest raw : List ℕ) (was left : Option (List ℕ)) (P : List ℕ → List ℕ → Type 0)
    → ((xs ys : List ℕ) → held ++ xs ≡ raw ++ (rest ++ ys) → P xs ys) → Consumes (prepend_known held was) (prepend_known rest left) raw → WhenKnown was left P
where_consumed held rest raw None left P holds consumed = tt
where_consumed held rest raw (Some xs) None P holds consumed = consumed
where_consumed held rest raw (Some xs) (Some ys) P holds consumed = holds xs ys consumed

-- the same at the end of the slot
where_ended : (held rest raw : List ℕ) (was left : Option (List ℕ)) (P : List ℕ → List ℕ → Type 0)
    → ((xs ys : List ℕ) → ys ≡ [] → held ++ xs ≡ raw ++ (rest ++ ys) → P xs ys) → Consumes (prepend_known held was) (prepend_known rest left) raw → IsAtEnd left → WhenKnown was left P
where_ended held rest raw None left P holds consumed at_end = tt
where_ended held rest raw (Some xs) None P holds consumed at_end = consumed
where_ended held rest raw (Some xs) (Some ys) P holds consumed at_end = holds xs ys at_end consumed

pub reports-whole : (line : LineEvent) (old new : ReaderState) (was left : Option (List ℕ)) (raw : List ℕ)
    → line_event_of old.limit raw ≡ line → new.slot ≡ old.slot → new.limit ≡ old.limit → new.spent ≡ false → old.ended ≡ false → new.ended ≡ false
    → IsWholeLine raw → length raw + new.room ≡ old.room → Consumes (prepend_known old.held was) (prepend_known new.held left) raw → ReportsLine line old new was left
reports-whole line old new was left raw line_is slot limit going old_going new_going whole paid consumed =
    let some : length raw ≡ length whole.text + 1 = ap length whole.is ∙ length-append whole.text (10 ∷ []) in
    record {
      slot = slot;
      limit = limit;
      going = going;
      awake = old_going;
      room = omega arith;
      at_end = λ knows ended. absurd (let no : false ≡ true = sym new_going ∙ ended in cc);
      known = where_consumed old.held new.held raw was left (ReportsFirst line old new)
          (λ xs ys split. subst (λ l. ReportsFirst l old new xs ys) line_is (whole_first old new raw xs ys limit old_going new_going whole paid split)) consumed;
    }

-- a line without LF, at the end of the slot
last_first : (old new : ReaderState) (raw xs ys : List ℕ) → new.limit ≡ old.limit → old.ended ≡ false → new.ended ≡ true → new.held ≡ [] → newlines raw ≡ 0 → 0 < length raw
    → length raw + new.room ≡ old.room → ys ≡ [] → old.held ++ xs ≡ raw ++ (new.held ++ ys) → ReportsFirst (line_event_of old.limit raw) old new xs ys
last_first old new raw xs ys limit old_going new_ended empty none some paid at_end split =
    let all : old.held ++ xs ≡ raw = split ∙ ap (λ l. raw ++ (l ++ ys)) empty ∙ ap (λ l. raw ++ l) at_end ∙ append-nil raw in
    first_taken old new raw raw [] limit paid (sym (append-nil raw)) (raw_lines-last raw none some) (rw new_ended (omega arith))
    xs ys (ahead-going old xs old_going ∙ all) (ahead-ended new ys new_ended empty)

pub reports-last : (line : LineEvent) (old new : ReaderState) (was left : Option (List ℕ)) (raw : List ℕ)
    → line_event_of old.limit raw ≡ line → new.slot ≡ old.slot → new.limit ≡ old.limit → new.spent ≡ false → old.ended ≡ false → new.ended ≡ true → new.held ≡ []
    → newlines raw ≡ 0 → 0 < length raw → length raw + new.room ≡ old.room → IsAtEnd left
    → Consumes (prepend_known old.held was) (prepend_known new.held left) raw → ReportsLine line old new was left
reports-last line old new was left raw line_is slot limit going old_going new_ended empty none some paid at_end consumed = record {
  slot = slot;
  limit = limit;
  going = going;
  awake = old_going;
  room = omega arith;
  at_end = λ knows ended. at_end;
  known = where_ended old.held new.held raw was left (ReportsFirst line old new)
      (λ xs ys done split. subst (λ l. ReportsFirst l old new xs ys) line_is (last_first old new raw xs ys limit old_going new_ended empty none some paid done split)) consumed at_end;
}

pub reports-end : (old new : ReaderState) (was left : Option (List ℕ)) (raw : List ℕ)
    → new.slot ≡ old.slot → new.limit ≡ old.limit → new.spent ≡ false → old.ended ≡ false → new.ended ≡ true → new.held ≡ []
    → raw ≡ [] → length raw + new.room ≡ old.room → IsAtEnd left
    → Consumes (prepend_known old.held was) (prepend_known new.held left) raw → ReportsEnd old new was left
reports-end old new was left raw slot limit going old_going new_ended empty none paid at_end consumed = record {
  slot = slot;
  limit = limit;
  going = going;
  room = omega (arith, ap length none);
  held = empty;
  ended = new_ended;
  at_end = λ knows. at_end;
  known = where_ended old.held new.held raw was left (λ before after. ahead old before ≡ [])
      (λ xs ys done split. ahead-going old xs old_going ∙ split ∙ ap (λ l. l ++ (new.held ++ ys)) none ∙ ap (λ l. l ++ ys) empty ∙ done) consumed at_end;
}

-- a reader that has ended reports the end again
pub reports-ended : (old : ReaderState) (was : Option (List ℕ)) → old.ended ≡ true → old.held ≡ [] → old.spent ≡ false → ReportsEnd old old was was
reports-ended old was ended empty going = record {
  slot = refl;
  limit = refl;
  going = going;
  room = refl;
  held = empty;
  ended = ended;
  at_end = λ knows. knows ended;
  known = at was;
}
  where
    at : (o : Option (List ℕ)) → WhenKnown o o (λ before after. ahead old before ≡ [])
    at None = tt
    at (Some xs) = ahead-ended old xs ended empty

past_first : (old : ReaderState) (raw after xs : List ℕ) → old.ended ≡ false → old.room < length raw → (newlines raw ≡ 0) ⊎ IsWholeLine raw
    → old.held ++ xs ≡ raw ++ after → to_come old xs ≡ PastBudget ∷ []
past_first old raw after xs going over (inl none) split =
    let longer = raw_lines-longer raw after none (omega arith) in
    let long = longer.long in
    rw (ahead-going old xs going, split, longer.is) (line_events-past old.limit old.room longer.first longer.others (omega arith))
past_first old raw after xs going over (inr whole) split =
    let split_text : raw ++ after ≡ whole.text ++ 10 ∷ after = ap (λ l. l ++ after) whole.is ∙ append_assoc whole.text (10 ∷ []) after in
    let lines_are : raw_lines (raw ++ after) ≡ raw ∷ raw_lines after = ap raw_lines split_text ∙ raw_lines-whole whole.text after whole.only ∙ ap (λ l. l ∷ raw_lines after) (sym whole.is) in
    rw (ahead-going old xs going, split, lines_are) (line_events-past old.limit old.room raw (raw_lines after) over)

pub reports-past : (old new : ReaderState) (was left : Option (List ℕ)) (raw : List ℕ)
    → new.slot ≡ old.slot → new.limit ≡ old.limit → new.spent ≡ true → old.ended ≡ false
    → IsOver raw old.room (prepend_known old.held was) (prepend_known new.held left) → ReportsPastBudget old new was left
reports-past old new was left raw slot limit spent old_going over = record {
  slot = slot;
  limit = limit;
  spent = spent;
  awake = old_going;
  known = where_consumed old.held new.held raw was left (λ before after. to_come old before ≡ PastBudget ∷ [])
      (λ xs ys split. past_first old raw (new.held ++ ys) xs old_going over.over over.one_line split) over.consumed;
}

rest_after : (all raw rest : List ℕ) → all ≡ raw ++ rest → newlines raw ≡ 0 → IsRestOfLine all rest
rest_after all raw rest split none =
    let count : length all - length rest ≡ length raw = omega (arith, ap length split, length-append raw rest) in
    record {
      last = rw (count, split) (sym (drop_at raw rest (length raw) refl));
      counted = rw split (omega (arith, newlines-append raw rest));
    }

pub reports-fault : (old new : ReaderState) (was left : Option (List ℕ)) (raw : List ℕ)
    → new.slot ≡ old.slot → new.limit ≡ old.limit → new.spent ≡ true → old.ended ≡ false → new.ended ≡ false → new.held ≡ [] → newlines raw ≡ 0
    → Consumes (prepend_known old.held was) (prepend_known new.held left) raw → ReportsFault old new was left
reports-fault old new was left raw slot limit spent old_going new_going empty none consumed = record {
  slot = slot;
  limit = limit;
  spent = spent;
  held = empty;
  awake = old_going;
  ended = new_going;
  known = where_consumed old.held new.held raw was left (λ before after. IsRestOfLine (ahead old before) after)
      (λ xs ys split. rest_after _ raw ys (ahead-going old xs old_going ∙ split ∙ ap (λ l. raw ++ (l ++ ys)) empty) none) consumed;
}

-- a line of which nothing is kept has no bytes
pub kept-none : (most : ℕ) (raw kept : List ℕ) → 0 < most → kept ≡ take most raw → kept ≡ [] → raw ≡ []
kept-none zero raw kept room is none = absurd (omega arith)
kept-none (suc n) [] kept room is none = refl
kept-none (suc n) (x ∷ xs) kept room is none = cc

pub kept-some : (most : ℕ) (raw kept : List ℕ) → kept ≡ take most raw → (kept ≡ [] → ⊥) → 0 < length raw
kept-some zero [] kept is some = absurd (some is)
kept-some (suc n) [] kept is some = absurd (some is)
kept-some most (x ∷ xs) kept is some = omega arith
