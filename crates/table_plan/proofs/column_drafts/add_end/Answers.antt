use Rattle.table_plan.proofs.DraftLists.{no_end}
use Rattle.table_plan.proofs.column_drafts.add_end.Goals as goal

pub returns-in_default : goal.returns-in_default
returns-in_default c = λ draft is. no_end c.args.drafts.now.items c.args.at draft c.args.bound.now is c.in_default.not-Bound
