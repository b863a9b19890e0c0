use Rattle.premise_eval.specs.internal.ColumnReading.{NoColumn}
use Rattle.premise_eval.proofs.premises.find_column.Given as goal

abbrev pub invariant-loop-at : goal.invariant-loop-at
invariant-loop-at l = NoColumn l.columns l.at l.side
