use Rattle.std.proofs.Common.{take}
use Rattle.rule_types.specs.Reading.{keys_read}
use Rattle.rule_parser.specs.internal.Noting.{Notes, NamesNoted}
use Rattle.rule_parser.proofs.noted.Noted.rules.Given as goal

abbrev pub invariant-loop-rule : goal.invariant-loop-rule
invariant-loop-rule l =
    Notes l.initial.self l.self (keys_read l.names (take l.rule-index l.rules))
    × NamesNoted l.names l.self l.seen.keys
