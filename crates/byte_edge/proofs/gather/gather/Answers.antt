use Rattle.std.proofs.Common.{◌≡◌, ◌++◌, ◌⊎◌, ℕ, List, [], rules, arith, length, take, drop, inl, inr, refl, sym, ap, IsTrue, ◌∙◌, Bool, true, false, length-append}
use Rattle.std.proofs.lemmas.List.{take_all, drop_all, length-take-le}
use Rattle.byte_edge.specs.Lines.{newlines, has_line_feed, IsWholeLine}
use Rattle.byte_edge.specs.internal.LineParts.{IsNextPart}
use Rattle.std.proofs.lemmas.Bool.{false≢true}
use Rattle.byte_edge.proofs.Lines.{none_is_feed}
use Rattle.byte_edge.proofs.Gathering.{IsTaken-part, Consumes-part, Consumes-filled, Consumes-unread, IsWholeLine-after, newlines-joined}
use Rattle.byte_edge.proofs.gather.gather.Goals as goal

-- the part of one line: it has no LF, or ends with its only one
one_line : (len : ℕ) (whole : Bool) (bytes raw : List ℕ) → newlines raw ≡ 0 → IsNextPart len whole bytes → (newlines (raw ++ take len bytes) ≡ 0) ⊎ IsWholeLine (raw ++ take len bytes)
one_line len true bytes raw none part = inr (IsWholeLine-after raw _ none (part.line refl))
one_line len false bytes raw none part =
    let all = part.all refl in
    inl (newlines-joined raw (take len bytes) none (rw (all.0, take_all (length bytes) bytes (omega arith)) all.1))

-- a part without an LF is all that is held
no_line : (len : ℕ) (whole : Bool) (bytes raw : List ℕ) → whole ≡ false → newlines raw ≡ 0 → IsNextPart len whole bytes → newlines (raw ++ take len bytes) ≡ 0
no_line len whole bytes raw is none part =
    let all = part.all is in
    newlines-joined raw (take len bytes) none (rw (all.0, take_all (length bytes) bytes (omega arith)) all.1)

-- where an LF is among the bytes, their next part is a whole line
part_is_whole : {A : Type 0} (len : ℕ) (whole : Bool) (bytes start : List ℕ) → whole ≡ false → IsNextPart len whole bytes
    → bytes ≡ start → IsTrue (has_line_feed start) → A
part_is_whole len whole bytes start is part same has =
    let none : has_line_feed bytes ≡ false = none_is_feed bytes (part.all is).1 in
    absurd (false≢true (sym none ∙ ap has_line_feed same ∙ has))

none_held : (len : ℕ) (whole : Bool) (bytes rest : List ℕ) → whole ≡ false → IsNextPart len whole bytes → rest ≡ drop len bytes → rest ≡ []
none_held len whole bytes rest is part rest_is = rest_is ∙ drop_all len bytes (omega (arith, (part.all is).0))

pub returns-then-part-room-clause-gathered : goal.returns-then-part-room-clause-gathered
returns-then-part-room-clause-gathered g c =
    let begun = c.parts.invariant.begun in
    let part : IsNextPart c.next_part-part.result.len c.next_part-part.result.whole c.parts.block.held = c.next_part-part.ensures in
    record {
      raw = begun.raw ++ take c.next_part-part.result.len c.parts.block.held;
      over = record {
        over = omega (arith, begun.taken.paid, length-append begun.raw (take c.next_part-part.result.len c.parts.block.held), length-take-le c.next_part-part.result.len c.parts.block.held part.within);
        one_line = one_line _ _ _ _ begun.none part;
        consumed = Consumes-part _ _ _ _ _ _ c.consume.ensures.held begun.taken.consumed;
      };
    }

pub returns-then-part-clause-gathered : goal.returns-then-part-clause-gathered
returns-then-part-clause-gathered g c =
    let begun = c.parts.invariant.begun in
    let part : IsNextPart c.next_part-part.result.len c.next_part-part.result.whole c.parts.block.held = c.next_part-part.ensures in
    record {
      raw = begun.raw ++ take c.next_part-part.result.len c.parts.block.held;
      whole = IsWholeLine-after _ _ begun.none (part.line c.if-part.true);
      taken = IsTaken-part _ _ _ _ _ _ _ _ _ _ part.within c.if-part-room.false c.consume.ensures.held (rw c.as_slice.ensures at c.extend.ensures.bytes) c.extend.ensures.most begun.taken;
    }

pub parts-preserved : goal.parts-preserved
parts-preserved g c =
    let begun = c.parts.invariant.begun in
    let part : IsNextPart c.next_part-part.result.len c.next_part-part.result.whole c.parts.block.held = c.next_part-part.ensures in
    let taken = IsTaken-part _ _ _ _ _ _ _ _ _ _ part.within c.if-part-room.false c.consume.ensures.held (rw c.as_slice.ensures at c.extend.ensures.bytes) c.extend.ensures.most begun.taken in
    record {
      begun = record {
        raw = begun.raw ++ take c.next_part-part.result.len c.parts.block.held;
        none = no_line _ _ _ _ c.if-part.false begun.none part;
        taken = record {
          kept = taken.kept;
          paid = taken.paid;
          consumed = Consumes-filled _ _ _ _ _ _ (none_held _ _ _ _ c.if-part.false part c.consume.ensures.held) taken.consumed c.in-Ok-true.ensures.bytes;
        };
      };
      most = search rules;
      unread = λ has. part_is_whole _ _ _ _ c.if-part.false part (c.parts.invariant.unread has).0 has;
      call = search rules;
    }

pub returns-in-Ok-false-clause-gathered : goal.returns-in-Ok-false-clause-gathered
returns-in-Ok-false-clause-gathered g c =
    let begun = c.parts.invariant.begun in
    let part : IsNextPart c.next_part-part.result.len c.next_part-part.result.whole c.parts.block.held = c.next_part-part.ensures in
    let taken = IsTaken-part _ _ _ _ _ _ _ _ _ _ part.within c.if-part-room.false c.consume.ensures.held (rw c.as_slice.ensures at c.extend.ensures.bytes) c.extend.ensures.most begun.taken in
    let done = c.in-Ok-false.ensures.end c.in-Ok-false.field-0-test in
    record {
      raw = begun.raw ++ take c.next_part-part.result.len c.parts.block.held;
      none = no_line _ _ _ _ c.if-part.false begun.none part;
      taken = record {
        kept = taken.kept;
        paid = taken.paid;
        consumed = Consumes-filled _ _ _ _ _ _ (none_held _ _ _ _ c.if-part.false part c.consume.ensures.held) taken.consumed c.in-Ok-false.ensures.bytes;
      };
      empty = done.0;
      at_end = done.1;
    }

pub returns-in-Err-clause-gathered : goal.returns-in-Err-clause-gathered
returns-in-Err-clause-gathered g c =
    let begun = c.parts.invariant.begun in
    let part : IsNextPart c.next_part-part.result.len c.next_part-part.result.whole c.parts.block.held = c.next_part-part.ensures in
    let taken = IsTaken-part _ _ _ _ _ _ _ _ _ _ part.within c.if-part-room.false c.consume.ensures.held (rw c.as_slice.ensures at c.extend.ensures.bytes) c.extend.ensures.most begun.taken in
    record {
      raw = begun.raw ++ take c.next_part-part.result.len c.parts.block.held;
      none = no_line _ _ _ _ c.if-part.false begun.none part;
      consumed = Consumes-unread _ _ _ _ _ _ (none_held _ _ _ _ c.if-part.false part c.consume.ensures.held) c.in-Err.ensures.nothing taken.consumed c.in-Err.ensures.unread;
      empty = c.in-Err.ensures.nothing;
    }

pub returns-in-Ok-false-clause-unread : goal.returns-in-Ok-false-clause-unread
returns-in-Ok-false-clause-unread g c = λ has.
    let part : IsNextPart c.next_part-part.result.len c.next_part-part.result.whole c.parts.block.held = c.next_part-part.ensures in
    part_is_whole _ _ _ _ c.if-part.false part (c.parts.invariant.unread has).0 has

pub returns-in-Err-clause-unread : goal.returns-in-Err-clause-unread
returns-in-Err-clause-unread g c = λ has.
    let part : IsNextPart c.next_part-part.result.len c.next_part-part.result.whole c.parts.block.held = c.next_part-part.ensures in
    part_is_whole _ _ _ _ c.if-part.false part (c.parts.invariant.unread has).0 has

pub returns-then-part-room-clause-unread : goal.returns-then-part-room-clause-unread
returns-then-part-room-clause-unread g c = λ has. (c.parts.invariant.unread has).1

pub returns-then-part-clause-unread : goal.returns-then-part-clause-unread
returns-then-part-clause-unread g c = λ has. (c.parts.invariant.unread has).1
