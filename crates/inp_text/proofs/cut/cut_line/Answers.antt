use Rattle.std.proofs.Common.{map}
use Rattle.inp_text.proofs.PlaceLemmas.{texts-of}
use Rattle.inp_text.proofs.cut.cut_line.Goals as goal

pub returns : goal.returns
returns c = record {
  value =
      texts-of c.args.line.now c.without_comment.result.now
      (map (λ item. item.now) c.in_ok-found.found.items)
      c.without_comment.ensures c.in_ok-found.ensures;
}
