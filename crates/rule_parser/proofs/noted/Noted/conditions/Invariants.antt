use Rattle.std.proofs.Common.{take}
use Rattle.std.specs.List.{flat_map}
use Rattle.rule_types.specs.Reading.{condition_reads}
use Rattle.rule_parser.specs.internal.Noting.{Notes, NamesNoted}
use Rattle.rule_parser.proofs.noted.Noted.conditions.Given as goal

abbrev pub invariant-loop-condition : goal.invariant-loop-condition
invariant-loop-condition l =
    Notes l.initial.self l.self (flat_map (condition_reads l.names) (take l.condition-index l.conditions))
    × NamesNoted l.names l.self l.seen.keys
