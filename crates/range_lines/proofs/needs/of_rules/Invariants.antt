use Rattle.std.proofs.Common.{◌≡◌, drop, None}
use Rattle.rule_types.specs.Reading.{keys_read}
use Rattle.range_lines.specs.internal.Views.{first_of}
use Rattle.range_lines.proofs.needs.of_rules.Given as goal

abbrev pub invariant-loop-rule : goal.invariant-loop-rule
invariant-loop-rule l =
    first_of l.given l.found (keys_read l.names (drop l.rule-index l.rules))
    ≡ first_of l.given None (keys_read l.names l.rules)
