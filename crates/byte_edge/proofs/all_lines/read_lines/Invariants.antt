use Rattle.std.proofs.Common.{◌≡◌, ◌++◌, false, map}
use Rattle.byte_edge.specs.Devices.{IsCallOn}
use Rattle.byte_edge.specs.Lines.{raw_lines, line_events}
use Rattle.byte_edge.specs.ReaderState.{WhenKnown, KnowsEnd, to_come}
use Rattle.byte_edge.specs.AllLines.{texts_of}
use Rattle.byte_edge.proofs.AllLines.{event_of_text}
use Rattle.byte_edge.proofs.all_lines.read_lines.Given as goal

-- the lines so far and those to come are what is reported of the slot
abbrev pub invariant-lines : goal.invariant-lines
invariant-lines g l = record {
  slot : l.reader.slot ≡ l.slot;
  limit : l.reader.limit ≡ l.limit;
  going : l.reader.spent ≡ false;
  knows_end : KnowsEnd l.reader (g.F.Files.left l.files l.slot);
  known : WhenKnown (g.F.Files.left l.initial.files l.slot) (g.F.Files.left l.files l.slot) (λ before after. line_events l.limit l.budget (raw_lines before) ≡ map event_of_text (texts_of l.all.items) ++ to_come l.reader after);
  call : IsCallOn l.slot false (g.F.Files.is_open l.initial.files) (g.F.Files.is_open l.files)
      (g.F.Files.held l.initial.files) (g.F.Files.held l.files) (g.F.Files.left l.initial.files) (g.F.Files.left l.files)
      (g.F.Files.faults l.initial.files) (g.F.Files.faults l.files);
}

abbrev pub decreases-lines : goal.decreases-lines
decreases-lines g l = l.reader.room
