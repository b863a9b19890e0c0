use Rattle.table_run.proofs.SourceSteps.{condition_is}
use Rattle.table_run.proofs.sources.condition_of.Goals as goal

pub returns : goal.returns
returns c = record {
  source = condition_is c.args.rules.now c.args.side.now c.first_condition.result c.first_condition.ensures.found c.first_condition.ensures.absent;
}
