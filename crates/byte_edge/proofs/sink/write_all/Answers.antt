use Rattle.std.proofs.Common.{rules}
use Rattle.std.proofs.lemmas.List.{take_rest}
use Rattle.byte_edge.proofs.Writes.{Appends-piece}
use Rattle.byte_edge.proofs.sink.write_all.Goals as goal

pub pieces-preserved : goal.pieces-preserved
pieces-preserved g c = record {
  within = search rules;
  wrote = Appends-piece _ _ _ _ _ _ c.pieces.invariant.wrote (simp take_rest at c.in_ok-count.ensures.bytes);
  count = search rules;
}
