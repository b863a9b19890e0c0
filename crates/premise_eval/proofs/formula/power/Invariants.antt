use Rattle.std.proofs.Common.{◌≡◌}
use Rattle.rule_meaning.specs.Formula.{power}
use Rattle.premise_eval.proofs.formula.power.Given as goal

abbrev pub invariant-loop-k : goal.invariant-loop-k
invariant-loop-k l = l.found ≡ power l.fn.p l._k
