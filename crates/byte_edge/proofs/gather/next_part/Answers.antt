-- The next part ends behind the LF that the block knows, or holds all its bytes.
use Rattle.std.proofs.Common.{sym, subst, length, false}
use Rattle.byte_edge.specs.internal.LineParts.{IsNextPart}
use Rattle.byte_edge.proofs.Lines.{newline-found, newline-absent}
use Rattle.byte_edge.proofs.gather.next_part.Goals as goal

pub returns-in-Some : goal.returns-in-Some
returns-in-Some c = newline-found _ _ c.in-Some.ensures

pub returns-in-None : goal.returns-in-None
returns-in-None c =
    subst (λ bytes. IsNextPart (length bytes) false c.args.block.now.held) (sym c.as_slice-bytes.ensures)
    (newline-absent _ c.in-None.ensures)
