-- The denominator is that of the view.
use Rattle.std.proofs.Common.{◌∙◌}
use Rattle.exact_fraction.proofs.Held.{parts_held, narrow}
use Rattle.exact_fraction.proofs.frac.Frac.den.Goals as goal

pub returns-clause-value : goal.returns-clause-value
returns-clause-value c =
    let f = c.self.inside in
    let p = parts_held f.num f.den c.args.self c.self.view_is c.self.invariant in
    narrow f.den p.den_size ∙ p.den_is
