use Rattle.std.proofs.Common.{◌≡◌, ◌++◌, take}
use Rattle.std.specs.Prelude.{codes}
use Rattle.std.specs.List.{flat_map}
use Rattle.table_compiler.specs.TableText.{piece_text}
use Rattle.table_compiler.proofs.texts.write_more_pieces.Given as goal

abbrev pub invariant-loop-piece : goal.invariant-loop-piece
invariant-loop-piece l =
    l.out.items
    ≡ l.fn.out.items ++ flat_map (λ next. codes " " ++ piece_text next) (take l.piece-index l.pieces)
