use Rattle.table_run.proofs.SourceSteps.{exists, column_is}
use Rattle.table_run.proofs.sources.source_of.Goals as goal

pub left_column-requires-clause-exists : goal.left_column-requires-clause-exists
left_column-requires-clause-exists c = exists c.args.rules.now c.in-Some.at c.args.side.now c.in-Some.ensures.source

pub returns-in-Some : goal.returns-in-Some
returns-in-Some c = record {
  source = record {
    condition = c.in-Some.at;
    left = c.in-Some.ensures.source;
    column =
        column_is c.args.rules.now c.args.values.now.columns c.in-Some.at c.args.side.now c.left_column.result
        c.in-Some.ensures.source c.left_column.ensures.column;
  };
}
