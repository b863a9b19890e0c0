use Rattle.std.proofs.Common.{Some, None, rules, refl}
use Rattle.byte_edge.proofs.PublicLaws.{known_bytes-at_slot}
use Rattle.whole_lines.proofs.LinesSoFar.{read-more, read-all, read-past}
use Rattle.whole_lines.proofs.file_lines.read_opened.Goals as goal

pub lines-preserved-else-is_err : goal.lines-preserved-else-is_err
lines-preserved-else-is_err g c =
    let line = rw (c.in-Ok-Some.is, c.in-Ok-Some.field-0-is) at c.next_line.follows.holds-at-none in
    let step = known_bytes-at_slot (g.F.Files.left c.lines.files)
    (g.F.Files.left c.next_line.new.files) _ _ _ c.lines.invariant.slot line.known in
    record {
      slot = search rules;
      limit = search rules;
      going = line.going;
      opened = search rules;
      knows_end = search rules;
      known = read-more _ _ _ _ _ c.lines.read _ (Some c.in-Ok-Some.line.now) _ _ _
          (search rules) refl c.lines.invariant.known step;
      call = search rules;
    }

pub lines-preserved : goal.lines-preserved
lines-preserved g c =
    let line = rw (c.in-Err-LineTooLong.is, c.in-Err-LineTooLong.field-0-is)
    at c.next_line.follows.holds-at-none in
    let step = known_bytes-at_slot (g.F.Files.left c.lines.files)
    (g.F.Files.left c.next_line.new.files) _ _ _ c.lines.invariant.slot line.known in
    record {
      slot = search rules;
      limit = search rules;
      going = line.going;
      opened = search rules;
      knows_end = search rules;
      known = read-more _ _ _ _ _ c.lines.read _ None _ _ _
          (search rules) refl c.lines.invariant.known step;
      call = search rules;
    }

pub returns-in-Ok-None-clause-judges : goal.returns-in-Ok-None-clause-judges
returns-in-Ok-None-clause-judges g c =
    let done = rw (c.in-Ok-None.is, c.in-Ok-None.field-0-is) at c.next_line.follows.holds-at-none in
    read-all _ _ _ c.args.kind.now c.lines.read c.lines.reader c.lines.invariant.known
    (rw c.lines.invariant.slot at done.known)

pub returns-in-Err-TooLong-clause-judges : goal.returns-in-Err-TooLong-clause-judges
returns-in-Err-TooLong-clause-judges g c =
    let done = rw (c.in-Err-TooLong.is, c.in-Err-TooLong.field-0-is)
    at c.next_line.follows.holds-at-none in
    read-past _ _ _ _ _ c.lines.read c.lines.reader c.lines.invariant.known
    (rw c.lines.invariant.slot at done.known)
