use Rattle.std.proofs.Common.{◌≡◌, ◌+◌, ◌≤◌, false}
use Rattle.byte_edge.specs.Devices.{IsCallOn}
use Rattle.byte_edge.specs.ReaderState.{KnowsEnd}
use Rattle.input_reader.proofs.SectionLines.{ReadSoFar}
use Rattle.input_reader.proofs.input_lines.read_opened.Given as goal

-- the sections represent the lines so far, and those to come are what is reported of the rest
abbrev pub invariant-lines : goal.invariant-lines
invariant-lines g l = record {
  slot : l.reader.slot ≡ 0;
  limit : l.reader.limit ≡ 4096;
  going : l.reader.spent ≡ false;
  few : l.sections.count + l.reader.room ≤ 67108864;
  opened : g.F.Files.is_open l.files 0;
  knows_end : KnowsEnd l.reader (g.F.Files.left l.files 0);
  so_far : ReadSoFar 4096 67108864 l.sections l.reader
      (g.F.Files.left l.initial.files 0) (g.F.Files.left l.files 0);
  call : IsCallOn 0 false (g.F.Files.is_open l.initial.files) (g.F.Files.is_open l.files)
      (g.F.Files.held l.initial.files) (g.F.Files.held l.files)
      (g.F.Files.left l.initial.files) (g.F.Files.left l.files)
      (g.F.Files.faults l.initial.files) (g.F.Files.faults l.files);
}

abbrev pub decreases-lines : goal.decreases-lines
decreases-lines g l = l.reader.room
