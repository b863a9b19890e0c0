use Rattle.std.proofs.Common.{◌≡◌, ◌++◌}
use Rattle.rule_parser.proofs.rules.listed_keys.Given as goal

abbrev pub invariant-loop-key : goal.invariant-loop-key
invariant-loop-key l = l.list ++ l.key-iterator ≡ l.found.keys
