use Rattle.std.proofs.Common.{rules, refl, Some, None}
use Rattle.byte_edge.specs.AllLines.{texts_of}
use Rattle.byte_edge.proofs.AllLines.{line_events-more, all-read, past-read}
use Rattle.byte_edge.proofs.all_lines.read_lines.Goals as goal

pub lines-preserved-in-Continue-branch-2 : goal.lines-preserved-in-Continue-branch-2
lines-preserved-in-Continue-branch-2 g c =
    let line = rw (c.in-Ok-Some.is, c.in-Ok-Some.field-0-is) at c.next_line.follows.holds-at-none in
    record {
      slot = search rules;
      limit = search rules;
      going = line.going;
      knows_end = search rules;
      known = line_events-more _ _ _ _ _ _ _ (Some c.in-Ok-Some.line.now) _ _ _ c.in_ok-push_copy-in-Ok-Some.ensures refl c.lines.invariant.known (rw c.lines.invariant.slot at line.known);
      call = search rules;
    }

pub lines-preserved : goal.lines-preserved
lines-preserved g c =
    let line = rw (c.in-Err-LineTooLong.is, c.in-Err-LineTooLong.field-0-is) at c.next_line.follows.holds-at-none in
    record {
      slot = search rules;
      limit = search rules;
      going = line.going;
      knows_end = search rules;
      known = line_events-more _ _ _ _ _ _ _ None _ _ _ c.in_ok-push_none-in-Err-LineTooLong.ensures refl c.lines.invariant.known (rw c.lines.invariant.slot at line.known);
      call = search rules;
    }

pub returns-in-Ok-None-clause-lines : goal.returns-in-Ok-None-clause-lines
returns-in-Ok-None-clause-lines g c =
    let done = rw (c.in-Ok-None.is, c.in-Ok-None.field-0-is) at c.next_line.follows.holds-at-none in
    (all-read _ _ _ _ _ (texts_of c.lines.all.items) c.lines.reader c.lines.invariant.known (rw c.lines.invariant.slot at done.known))

pub returns-in-Err-TooLong-clause-too_long : goal.returns-in-Err-TooLong-clause-too_long
returns-in-Err-TooLong-clause-too_long g c past =
    let done = rw (c.in-Err-TooLong.is, c.in-Err-TooLong.field-0-is) at c.next_line.follows.holds-at-none in
    past-read _ _ _ _ _ (texts_of c.lines.all.items) c.lines.reader c.lines.invariant.known (rw c.lines.invariant.slot at done.known)
