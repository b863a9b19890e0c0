use Rattle.std.proofs.Common.{rules, arith, refl, [], Some, None, ◌∙◌}
use Rattle.byte_edge.specs.Devices.{AppendsPrefix}
use Rattle.byte_edge.specs.Lines.{Whole, OverLong}
use Rattle.byte_edge.proofs.PublicLaws.{known_bytes-at_slot, known_end-at_slot}
use Rattle.streamed_lines.specs.internal.Waiting.{Moves}
use Rattle.streamed_lines.proofs.KnownProgress.{known_start, known_moves, known_line, known_refused}
use Rattle.streamed_lines.proofs.KnownProgress.{known_ended, known_past, known_prefix, known_cut}
use Rattle.streamed_lines.proofs.KnownProgress.{known_taken}
use Rattle.streamed_lines.proofs.print_lines.print_lines.Goals as goal

pub lines-init : goal.lines-init
lines-init g c = record {
  slot = search rules;
  opened = search rules;
  going = search rules;
  knows_end = search rules;
  ready = search rules;
  number = omega arith;
  known = known_start (g.P.LinePrinter.printed c.args.printer.now) c.args.reader.now
      (g.F.Files.left c.args.files.now 1) (g.O.Sink.written c.args.out.now) c.args.text.now.items c.requires.empty;
  call = search rules;
  count = search rules;
}

pub returns-then-is_err-clause-waits : goal.returns-then-is_err-clause-waits
returns-then-is_err-clause-waits g c =
    let cut : AppendsPrefix (g.O.Sink.written c.lines.out) (g.O.Sink.written c.hand_over.new.out) c.lines.text.items = search rules in
    known_cut _ _ _ _ _ _ _ _ _ _ _ c.lines.invariant.known cut

pub returns-in-Err-Refused-clause-waits : goal.returns-in-Err-Refused-clause-waits
returns-in-Err-Refused-clause-waits g c =
    let line = rw (c.in-Ok-Some.is, c.in-Ok-Some.field-0-is) at c.next_line.follows.holds-at-none in
    let moves : Moves c.lines.text.items c.hand_over.new.text.items (g.O.Sink.written c.lines.out) (g.O.Sink.written c.hand_over.new.out) = search rules in
    let step = known_bytes-at_slot (g.F.Files.left c.lines.files) (g.F.Files.left c.next_line.new.files) _ 1 _ c.lines.invariant.slot line.known in
    let progress = known_moves _ _ _ _ _ _ _ _ _ _ _ _ c.lines.invariant.known moves in
    let refused = rw c.in-Err-Refused.field-0-is at c.in-Err-Refused.ensures.prints in
    rw c.in-Err-Refused.field-0-is
    (known_refused _ _ _ _ _ _ _ _ _ _ _ _ _ _ (Whole c.in-Ok-Some.line.now) progress step refused.0 refused.1)

pub returns-in-Err-NoMemory-clause-waits : goal.returns-in-Err-NoMemory-clause-waits
returns-in-Err-NoMemory-clause-waits g c =
    let line = rw (c.in-Ok-Some.is, c.in-Ok-Some.field-0-is) at c.next_line.follows.holds-at-none in
    let moves : Moves c.lines.text.items c.hand_over.new.text.items (g.O.Sink.written c.lines.out) (g.O.Sink.written c.hand_over.new.out) = search rules in
    let step = known_bytes-at_slot (g.F.Files.left c.lines.files) (g.F.Files.left c.next_line.new.files) _ 1 _ c.lines.invariant.slot line.known in
    let progress = known_moves _ _ _ _ _ _ _ _ _ _ _ _ c.lines.invariant.known moves in
    known_prefix _ _ _ _ _ _ _ _ _ _ _ _ progress step

pub returns-in-Ok-end_lines-clause-waits : goal.returns-in-Ok-end_lines-clause-waits
returns-in-Ok-end_lines-clause-waits g c =
    let done = rw (c.in-Ok-None.is, c.in-Ok-None.field-0-is) at c.next_line.follows.holds-at-none in
    let moves : Moves c.lines.text.items c.hand_over.new.text.items (g.O.Sink.written c.lines.out) (g.O.Sink.written c.hand_over.new.out) = search rules in
    let step = known_bytes-at_slot (g.F.Files.left c.lines.files) (g.F.Files.left c.next_line.new.files) _ 1 _ c.lines.invariant.slot done.known in
    let progress = known_moves _ _ _ _ _ _ _ _ _ _ _ _ c.lines.invariant.known moves in
    known_ended _ _ _ _ _ _ _ _ _ _ _ None progress step c.in-Ok-end_lines.ensures.ends

pub returns-in-Err-Refused-end_lines-clause-waits : goal.returns-in-Err-Refused-end_lines-clause-waits
returns-in-Err-Refused-end_lines-clause-waits g c =
    let done = rw (c.in-Ok-None.is, c.in-Ok-None.field-0-is) at c.next_line.follows.holds-at-none in
    let moves : Moves c.lines.text.items c.hand_over.new.text.items (g.O.Sink.written c.lines.out) (g.O.Sink.written c.hand_over.new.out) = search rules in
    let step = known_bytes-at_slot (g.F.Files.left c.lines.files) (g.F.Files.left c.next_line.new.files) _ 1 _ c.lines.invariant.slot done.known in
    let progress = known_moves _ _ _ _ _ _ _ _ _ _ _ _ c.lines.invariant.known moves in
    known_ended _ _ _ _ _ _ _ _ _ _ _ _ progress step
    (rw c.in-Err-Refused-end_lines.field-0-is at c.in-Err-Refused-end_lines.ensures.ends)

pub returns-in-Err-NoMemory-end_lines-clause-waits : goal.returns-in-Err-NoMemory-end_lines-clause-waits
returns-in-Err-NoMemory-end_lines-clause-waits g c =
    let done = rw (c.in-Ok-None.is, c.in-Ok-None.field-0-is) at c.next_line.follows.holds-at-none in
    let moves : Moves c.lines.text.items c.hand_over.new.text.items (g.O.Sink.written c.lines.out) (g.O.Sink.written c.hand_over.new.out) = search rules in
    let step = known_bytes-at_slot (g.F.Files.left c.lines.files) (g.F.Files.left c.next_line.new.files) _ 1 _ c.lines.invariant.slot done.known in
    let progress = known_moves _ _ _ _ _ _ _ _ _ _ _ _ c.lines.invariant.known moves in
    known_prefix _ _ _ _ _ _ _ _ _ _ _ _ progress step

pub returns-in-Refused-clause-waits : goal.returns-in-Refused-clause-waits
returns-in-Refused-clause-waits g c =
    let line = rw (c.in-Err-LineTooLong.is, c.in-Err-LineTooLong.field-0-is) at c.next_line.follows.holds-at-none in
    let moves : Moves c.lines.text.items c.hand_over.new.text.items (g.O.Sink.written c.lines.out) (g.O.Sink.written c.hand_over.new.out) = search rules in
    let step = known_bytes-at_slot (g.F.Files.left c.lines.files) (g.F.Files.left c.next_line.new.files) _ 1 _ c.lines.invariant.slot line.known in
    let progress = known_moves _ _ _ _ _ _ _ _ _ _ _ _ c.lines.invariant.known moves in
    known_refused _ _ _ _ _ _ _ _ _ _ _ _ _ _ OverLong progress step refl c.in-Refused.ensures.refuses

pub returns-in-NoMemory-clause-waits : goal.returns-in-NoMemory-clause-waits
returns-in-NoMemory-clause-waits g c =
    let line = rw (c.in-Err-LineTooLong.is, c.in-Err-LineTooLong.field-0-is) at c.next_line.follows.holds-at-none in
    let moves : Moves c.lines.text.items c.hand_over.new.text.items (g.O.Sink.written c.lines.out) (g.O.Sink.written c.hand_over.new.out) = search rules in
    let step = known_bytes-at_slot (g.F.Files.left c.lines.files) (g.F.Files.left c.next_line.new.files) _ 1 _ c.lines.invariant.slot line.known in
    let progress = known_moves _ _ _ _ _ _ _ _ _ _ _ _ c.lines.invariant.known moves in
    known_prefix _ _ _ _ _ _ _ _ _ _ _ _ progress step

pub returns-in-Err-TooLong-clause-waits : goal.returns-in-Err-TooLong-clause-waits
returns-in-Err-TooLong-clause-waits g c =
    let past = rw (c.in-Err-TooLong.is, c.in-Err-TooLong.field-0-is) at c.next_line.follows.holds-at-none in
    let moves : Moves c.lines.text.items c.hand_over.new.text.items (g.O.Sink.written c.lines.out) (g.O.Sink.written c.hand_over.new.out) = search rules in
    let step = known_bytes-at_slot (g.F.Files.left c.lines.files) (g.F.Files.left c.next_line.new.files) _ 1 _ c.lines.invariant.slot past.known in
    let progress = known_moves _ _ _ _ _ _ _ _ _ _ _ _ c.lines.invariant.known moves in
    known_past _ _ _ _ _ _ _ _ _ _ _ _ progress step (g.met.P.LinePrinter.past_budget c.lines.printer c.lines.number [])

pub returns-in-Err-Fault-clause-waits : goal.returns-in-Err-Fault-clause-waits
returns-in-Err-Fault-clause-waits g c =
    let fault = rw (c.in-Err-Fault.is, c.in-Err-Fault.field-0-is) at c.next_line.follows.holds-at-none in
    let moves : Moves c.lines.text.items c.hand_over.new.text.items (g.O.Sink.written c.lines.out) (g.O.Sink.written c.hand_over.new.out) = search rules in
    let step = known_bytes-at_slot (g.F.Files.left c.lines.files) (g.F.Files.left c.next_line.new.files) _ 1 _ c.lines.invariant.slot fault.known in
    let progress = known_moves _ _ _ _ _ _ _ _ _ _ _ _ c.lines.invariant.known moves in
    known_taken _ _ _ _ _ _ _ _ _ _ _ progress step fault.awake (g.met.P.LinePrinter.nothing_at_end c.lines.printer c.lines.number)

pub lines-preserved : goal.lines-preserved
lines-preserved g c =
    let line = rw (c.in-Ok-Some.is, c.in-Ok-Some.field-0-is) at c.next_line.follows.holds-at-none in
    let left = g.F.Files.left c.lines.files in
    let left' = g.F.Files.left c.next_line.new.files in
    let moves : Moves c.lines.text.items c.hand_over.new.text.items (g.O.Sink.written c.lines.out) (g.O.Sink.written c.hand_over.new.out) = search rules in
    let step = known_bytes-at_slot left left' _ 1 _ c.lines.invariant.slot line.known in
    let progress = known_moves _ _ _ _ _ _ _ _ _ _ _ _ c.lines.invariant.known moves in
    record {
      slot = line.slot ∙ c.lines.invariant.slot;
      opened = search rules;
      going = line.going;
      knows_end = known_end-at_slot left left' _ 1 c.lines.reader c.next_line.follows.lender-at-none c.lines.invariant.slot line.at_end c.lines.invariant.knows_end;
      ready = search rules;
      number = omega (arith, line.room, c.lines.invariant.number);
      known = known_line _ _ _ _ _ _ _ _ _ _ _ _ _ _ (Whole c.in-Ok-Some.line.now) progress step line.awake c.in-Ok.ensures.prints;
      call = search rules;
      count = search rules;
    }
