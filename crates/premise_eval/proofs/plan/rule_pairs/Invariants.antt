use Rattle.std.proofs.Common.{take}
use Rattle.premise_eval.specs.Columns.{ColumnsFit, PairsFit}
use Rattle.premise_eval.specs.internal.ColumnReading.{Extends}
use Rattle.premise_eval.proofs.plan.rule_pairs.Given as goal

abbrev pub invariant-loop-condition : goal.invariant-loop-condition
invariant-loop-condition l = record {
  columns : ColumnsFit l.rules l.columns.items;
  more : Extends l.fn.columns.items l.columns.items;
  pairs : PairsFit l.columns.items (take l.condition-index l.rule.conditions) l.pairs.items;
}
