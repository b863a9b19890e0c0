use Rattle.premise_eval.specs.internal.ColumnReading.{column_read}
use Rattle.premise_eval.proofs.ColumnSteps.{written}
use Rattle.premise_eval.proofs.column.read_columns.Goals as goal

pub loop-at-preserved : goal.loop-at-preserved
loop-at-preserved c =
    written (column_read c.args.state.now c.args.names.now) c.args.columns.now c.args.values.now c.loop-at.values c.loop-at.at _ c.column_read-found.result
    c.loop-at.invariant c.column_read-found.ensures.value c.loop-at-test.true c.requires.each
