use Rattle.std.proofs.Common.{◌≡◌, drop}
use Rattle.std.specs.List.{flat_map}
use Rattle.rule_types.specs.Reading.{condition_reads}
use Rattle.range_lines.specs.internal.Views.{first_of}
use Rattle.range_lines.proofs.needs.after_conditions.Given as goal

abbrev pub invariant-loop-condition : goal.invariant-loop-condition
invariant-loop-condition l =
    first_of l.given l.first (flat_map (condition_reads l.names) (drop l.condition-index l.conditions))
    ≡ first_of l.given l.initial.first (flat_map (condition_reads l.names) l.conditions)
