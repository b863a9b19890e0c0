-- The two fields, wider.
use Rattle.std.proofs.Common.{◌∙◌}
use Rattle.exact_fraction.proofs.Held.{parts_held, widened}
use Rattle.exact_fraction.proofs.frac.Frac.parts.Goals as goal

pub returns-clause-den : goal.returns-clause-den
returns-clause-den c =
    let f = c.self.inside in
    let p = parts_held f.num f.den c.args.self.now c.self.view_is c.self.invariant in
    widened f.den p.den_size ∙ p.den_is

pub returns-clause-num_size : goal.returns-clause-num_size
returns-clause-num_size c =
    let f = c.self.inside in
    let p = parts_held f.num f.den c.args.self.now c.self.view_is c.self.invariant in
    rw (widened f.num p.num_size) p.num_size
