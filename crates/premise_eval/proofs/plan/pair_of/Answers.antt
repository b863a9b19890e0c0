use Rattle.premise_eval.proofs.PlanSteps.{extends_on, column_kept}
use Rattle.premise_eval.proofs.plan.pair_of.Goals as goal

pub returns-clause-more : goal.returns-clause-more
returns-clause-more c =
    extends_on c.args.columns.now.items c.column_of.new.columns.items c.right_column.new.columns.items c.in_ok-left.ensures.more c.in_ok-right.ensures.more

pub returns-clause-pair : goal.returns-clause-pair
returns-clause-pair c = record {
  left =
      column_kept c.column_of.new.columns.items c.right_column.new.columns.items c.in_ok-left.left c.args.condition.now.left c.in_ok-right.ensures.more c.in_ok-left.ensures.column;
  right = c.in_ok-right.ensures.column;
}
