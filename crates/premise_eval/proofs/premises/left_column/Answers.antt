use Rattle.premise_eval.proofs.PlanSteps.{pair_at}
use Rattle.premise_eval.proofs.RowSteps.{pair_within}
use Rattle.premise_eval.proofs.premises.left_column.Goals as goal

pub bounds-pairs-number : goal.bounds-pairs-number
bounds-pairs-number c =
    pair_within c.args.rules.now c.args.rule c.args.number c.args.values.now.columns c.pairs_of-pairs.result.now c.requires.exists c.pairs_of-pairs.ensures.each

pub returns : goal.returns
returns c = record {
  column = λ row given is_row is. (pair_at c.args.values.now.columns row.conditions c.pairs_of-pairs.result.now c.args.number given _ (c.pairs_of-pairs.ensures.each row is_row) is).left;
}
