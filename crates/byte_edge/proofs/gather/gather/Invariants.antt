use Rattle.std.proofs.Common.{◌≡◌, ◌+◌, ◌-◌, ◌*◌, false, IsTrue, length}
use Rattle.std.specs.Io.KnownBytes.{prepend_known}
use Rattle.byte_edge.specs.Devices.{IsCallOn, SlotsUnchanged}
use Rattle.byte_edge.specs.Lines.{has_line_feed}
use Rattle.byte_edge.proofs.Gathering.{IsBegun}
use Rattle.byte_edge.proofs.gather.gather.Given as goal

-- what was taken so far is the beginning of a line, and no call failed
abbrev pub invariant-parts : goal.invariant-parts
invariant-parts g l = record {
  begun : IsBegun l.line l.initial.room l.room (prepend_known l.initial.block.held (g.F.Files.left l.initial.files l.slot)) (prepend_known l.block.held (g.F.Files.left l.files l.slot));
  most : l.line.most ≡ l.initial.line.most;
  unread : IsTrue (has_line_feed l.initial.block.held) → (l.block.held ≡ l.initial.block.held)
      × SlotsUnchanged (g.F.Files.left l.initial.files) (g.F.Files.left l.files) (g.F.Files.faults l.initial.files) (g.F.Files.faults l.files);
  call : IsCallOn l.slot false (g.F.Files.is_open l.initial.files) (g.F.Files.is_open l.files)
      (g.F.Files.held l.initial.files) (g.F.Files.held l.files) (g.F.Files.left l.initial.files) (g.F.Files.left l.files)
      (g.F.Files.faults l.initial.files) (g.F.Files.faults l.files);
}

-- a read that gives bytes is followed by a part of a line, which is paid for
abbrev pub decreases-parts : goal.decreases-parts
decreases-parts g l = 2 * l.room + (1 - length l.block.held)
