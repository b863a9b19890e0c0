use Rattle.std.proofs.Common.{◌≡◌, ◌++◌, take}
use Rattle.std.specs.List.{flat_map}
use Rattle.report_text.specs.internal.RowTexts.{piece_text}
use Rattle.report_text.proofs.cell.write_pieces.Given as goal

-- the text so far
abbrev pub invariant-loop-entry : goal.invariant-loop-entry
invariant-loop-entry l =
    l.out.items ≡ l.initial.out.items ++ flat_map (piece_text l.objects) (take l.entry-index l.pieces)
