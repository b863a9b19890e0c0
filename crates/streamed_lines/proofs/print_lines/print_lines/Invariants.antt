use Rattle.std.proofs.Common.{◌≡◌, ◌+◌, ◌<◌, ◌≤◌, false}
use Rattle.byte_edge.specs.Devices.{IsCallOn}
use Rattle.byte_edge.specs.ReaderState.{KnowsEnd}
use Rattle.streamed_lines.proofs.KnownProgress.{KnownProgress}
use Rattle.streamed_lines.proofs.print_lines.print_lines.Given as goal

-- each line before was printed, and no call failed
abbrev pub invariant-lines : goal.invariant-lines
invariant-lines g l = record {
  slot : l.reader.slot ≡ 1;
  opened : g.F.Files.is_open l.files 1;
  going : l.reader.spent ≡ false;
  knows_end : KnowsEnd l.reader (g.F.Files.left l.files 1);
  ready : g.P.LinePrinter.is_ready l.printer;
  number : l.number + l.reader.room ≤ 1 + l.initial.reader.room;
  known : KnownProgress (g.P.LinePrinter.printed l.initial.printer) (g.P.LinePrinter.printed l.printer) l.number
      l.initial.reader l.reader (g.F.Files.left l.initial.files 1) (g.F.Files.left l.files 1)
      (g.O.Sink.written l.initial.out) (g.O.Sink.written l.out) l.text.items;
  call : IsCallOn 1 false (g.F.Files.is_open l.initial.files) (g.F.Files.is_open l.files)
      (g.F.Files.held l.initial.files) (g.F.Files.held l.files) (g.F.Files.left l.initial.files) (g.F.Files.left l.files)
      (g.F.Files.faults l.initial.files) (g.F.Files.faults l.files);
  count : g.O.Sink.faults l.out ≡ g.O.Sink.faults l.initial.out;
}

-- each line takes room
abbrev pub decreases-lines : goal.decreases-lines
decreases-lines g l = l.reader.room
