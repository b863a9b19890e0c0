use Rattle.std.proofs.Common.{◌≡◌, false}
use Rattle.byte_edge.specs.Devices.{IsCallOn}
use Rattle.byte_edge.specs.ReaderState.{KnowsEnd, WhenKnown}
use Rattle.whole_lines.proofs.LinesSoFar.{IsRead}
use Rattle.whole_lines.proofs.file_lines.read_opened.Given as goal

-- the lines so far and those to come are what is reported of the file
abbrev pub invariant-lines : goal.invariant-lines
invariant-lines g l = record {
  slot : l.reader.slot ≡ l.kind.slot;
  limit : l.reader.limit ≡ l.kind.limit;
  going : l.reader.spent ≡ false;
  opened : g.F.Files.is_open l.files l.kind.slot;
  knows_end : KnowsEnd l.reader (g.F.Files.left l.files l.kind.slot);
  known : WhenKnown (g.F.Files.left l.initial.files l.kind.slot)
      (g.F.Files.left l.files l.kind.slot)
      (IsRead l.kind.limit l.kind.budget l.read l.reader);
  call : IsCallOn l.kind.slot false
      (g.F.Files.is_open l.initial.files) (g.F.Files.is_open l.files)
      (g.F.Files.held l.initial.files) (g.F.Files.held l.files)
      (g.F.Files.left l.initial.files) (g.F.Files.left l.files)
      (g.F.Files.faults l.initial.files) (g.F.Files.faults l.files);
}

abbrev pub decreases-lines : goal.decreases-lines
decreases-lines g l = l.reader.room
