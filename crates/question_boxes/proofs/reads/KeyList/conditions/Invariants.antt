use Rattle.std.proofs.Common.{take}
use Rattle.std.specs.List.{flat_map}
use Rattle.rule_types.specs.Reading.{condition_reads}
use Rattle.question_boxes.specs.internal.KeyLists.{Adds}
use Rattle.question_boxes.proofs.reads.KeyList.conditions.Given as goal

abbrev pub invariant-loop-condition : goal.invariant-loop-condition
invariant-loop-condition l =
    Adds l.initial.self l.self
    (flat_map (condition_reads l.names) (take l.condition-index l.conditions))
