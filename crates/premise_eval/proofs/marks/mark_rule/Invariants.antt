use Rattle.std.proofs.Common.{take}
use Rattle.std.specs.List.{flat_map}
use Rattle.premise_eval.specs.internal.Marks.{MarksNames, uses_of}
use Rattle.premise_eval.proofs.marks.mark_rule.Given as goal

abbrev pub invariant-loop-condition : goal.invariant-loop-condition
invariant-loop-condition l =
    MarksNames (flat_map (uses_of l.names) (take l.condition-index l.rule.conditions)) l.fn.marks l.marks
