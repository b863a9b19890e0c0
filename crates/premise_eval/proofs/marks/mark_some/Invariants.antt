use Rattle.std.proofs.Common.{take}
use Rattle.std.specs.List.{flat_map}
use Rattle.rule_meaning.specs.SomeRules.{rules_at}
use Rattle.premise_eval.specs.internal.Marks.{MarksNames, rule_uses}
use Rattle.premise_eval.proofs.marks.mark_some.Given as goal

abbrev pub invariant-loop-number : goal.invariant-loop-number
invariant-loop-number l =
    MarksNames (flat_map (rule_uses l.rules.names) (rules_at l.rules.rules (take l.number-index l.only))) l.initial.marks l.marks
