use Rattle.std.proofs.Common.{◌∙◌}
use Rattle.grid_samples.proofs.Middles.{middle_made}
use Rattle.grid_samples.proofs.numbers.middle.Goals as goal

pub returns : goal.returns
returns c =
    let a = c.crosswise.ensures in
    let b = c.crosswise-2.ensures in
    let d = c.denominators.ensures in
    record {
      value = c.make.ensures.value ∙ middle_made c.args.p.now c.args.q.now _ _ _ a.value a.size b.value b.size d.value d.size;
    }
