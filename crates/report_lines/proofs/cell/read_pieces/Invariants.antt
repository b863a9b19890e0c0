use Rattle.std.proofs.Common.{◌≡◌, [], drop}
use Rattle.report_lines.specs.StateLines.{pieces_from}
use Rattle.report_lines.proofs.cell.read_pieces.Given as goal

-- the keys from here on give what all keys give
abbrev pub invariant-loop-key : goal.invariant-loop-key
invariant-loop-key l =
    pieces_from l.body.lines.now l.body.objects.now (drop l.key-index l.key-items) l.so_far.place
    l.so_far.pieces
    ≡ pieces_from l.body.lines.now l.body.objects.now l.body.grid.now.keys l.at []
