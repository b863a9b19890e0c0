use Rattle.std.proofs.Common.{take}
use Rattle.premise_eval.specs.Columns.{ColumnsFit, AllPairsFit}
use Rattle.premise_eval.proofs.plan.all_pairs.Given as goal

abbrev pub invariant-loop-rule : goal.invariant-loop-rule
invariant-loop-rule l = record {
  columns : ColumnsFit l.rules l.columns.items;
  pairs : AllPairsFit l.columns.items (take l.rule-index l.rules.rules) l.pairs.items;
}
