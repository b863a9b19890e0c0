use Rattle.std.proofs.Common.{◌≡◌, ◌+◌, ◌∷◌, List, Some, None, rules, refl, arith}
use Rattle.byte_edge.proofs.PublicLaws.{known_bytes-at_slot}
use Rattle.inp_text.specs.Sections.{Line}
use Rattle.inp_text.specs.internal.Represents.{Represents}
use Rattle.input_reader.proofs.SectionLines.{read-none, read-more, read-all, read-past}
use Rattle.input_reader.proofs.input_lines.read_opened.Goals as goal

pub lines-preserved-else-is_err : goal.lines-preserved-else-is_err
lines-preserved-else-is_err g c =
    let line = rw (c.in-Ok-Some.is, c.in-Ok-Some.field-0-is) at c.next_line.follows.holds-at-none in
    let counted : c.push.new.self.count ≡ c.lines.sections.count + 1 = search rules in
    let taken : (earlier : List Line) → Represents c.lines.sections earlier
    → Represents c.push.new.self (Some c.in-Ok-Some.line.now ∷ earlier) = search rules in
    let step = known_bytes-at_slot (g.F.Files.left c.lines.files)
    (g.F.Files.left c.next_line.new.files) _ 0 _ c.lines.invariant.slot line.known in
    record {
      slot = search rules;
      limit = search rules;
      going = line.going;
      few = (let few = c.lines.invariant.few in let room = line.room in omega (arith, counted, few, room));
      opened = search rules;
      knows_end = search rules;
      so_far = read-more _ _ _ _ _ _ _ (Some c.in-Ok-Some.line.now) _ _ _ taken refl
          c.lines.invariant.so_far step;
      call = search rules;
    }

pub lines-preserved : goal.lines-preserved
lines-preserved g c =
    let line = rw (c.in-Err-LineTooLong.is, c.in-Err-LineTooLong.field-0-is)
    at c.next_line.follows.holds-at-none in
    let counted : c.push-in-Err-LineTooLong.new.self.count ≡ c.lines.sections.count + 1 =
    search rules in
    let taken : (earlier : List Line) → Represents c.lines.sections earlier
    → Represents c.push-in-Err-LineTooLong.new.self (None ∷ earlier) = search rules in
    let step = known_bytes-at_slot (g.F.Files.left c.lines.files)
    (g.F.Files.left c.next_line.new.files) _ 0 _ c.lines.invariant.slot line.known in
    record {
      slot = search rules;
      limit = search rules;
      going = line.going;
      few = (let few = c.lines.invariant.few in let room = line.room in omega (arith, counted, few, room));
      opened = search rules;
      knows_end = search rules;
      so_far = read-more _ _ _ _ _ _ _ None _ _ _ taken refl
          c.lines.invariant.so_far step;
      call = search rules;
    }

pub returns-in-Ok-None-clause-reads : goal.returns-in-Ok-None-clause-reads
returns-in-Ok-None-clause-reads g c =
    let done = rw (c.in-Ok-None.is, c.in-Ok-None.field-0-is) at c.next_line.follows.holds-at-none in
    record {
      earlier = c.lines.invariant.so_far.earlier;
      represents = c.lines.invariant.so_far.represents;
      of_file = read-all _ _ _ 4096 67108864 c.lines.sections c.lines.reader
          c.lines.invariant.so_far (rw c.lines.invariant.slot at done.known);
    }

pub returns-in-Err-TooLong-clause-reads : goal.returns-in-Err-TooLong-clause-reads
returns-in-Err-TooLong-clause-reads g c =
    let done = rw (c.in-Err-TooLong.is, c.in-Err-TooLong.field-0-is)
    at c.next_line.follows.holds-at-none in
    read-past _ _ _ 4096 67108864 c.lines.sections c.lines.reader c.lines.invariant.so_far
    (rw c.lines.invariant.slot at done.known)
