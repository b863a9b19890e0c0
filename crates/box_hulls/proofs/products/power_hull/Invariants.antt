use Rattle.std.proofs.Common.{◌≡◌}
use Rattle.verdict_meaning.specs.Hulls.{power_hull}
use Rattle.box_hulls.proofs.products.power_hull.Given as goal

abbrev pub invariant-loop-k : goal.invariant-loop-k
invariant-loop-k l = l.hull ≡ power_hull l.fn.a l._k
