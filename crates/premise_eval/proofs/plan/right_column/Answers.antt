use Rattle.premise_eval.proofs.PlanSteps.{extends_itself}
use Rattle.premise_eval.proofs.plan.right_column.Goals as goal

pub returns-in-Value-clause-more : goal.returns-in-Value-clause-more
returns-in-Value-clause-more c = extends_itself c.args.columns.now.items
