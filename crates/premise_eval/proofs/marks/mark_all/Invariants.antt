use Rattle.std.proofs.Common.{take}
use Rattle.std.specs.List.{flat_map}
use Rattle.premise_eval.specs.internal.Marks.{MarksNames, rule_uses}
use Rattle.premise_eval.proofs.marks.mark_all.Given as goal

abbrev pub invariant-loop-rule : goal.invariant-loop-rule
invariant-loop-rule l =
    MarksNames (flat_map (rule_uses l.rules.names) (take l.rule-index l.rules.rules)) l.initial.marks l.marks
