use Rattle.std.proofs.Common.{◌≡◌, Bool, drop}
use Rattle.rule_types.specs.declared.condition.Condition.{Condition}
use Rattle.rule_meaning.specs.Premise.{rest_holds, whole_holds}
use Rattle.premise_eval.specs.internal.ColumnReading.{TruthIn}
use Rattle.premise_eval.proofs.conditions.premise_in.Given as goal

abbrev pub invariant-loop-at : goal.invariant-loop-at
invariant-loop-at l =
    (truth : Condition → Bool) → TruthIn l.hours l.values truth l.conditions l.pairs
    → rest_holds truth l.any (drop l.at l.conditions) ≡ whole_holds truth l.conditions
