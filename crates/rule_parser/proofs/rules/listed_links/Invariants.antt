use Rattle.std.proofs.Common.{◌≡◌, ◌++◌}
use Rattle.rule_parser.proofs.rules.listed_links.Given as goal

abbrev pub invariant-loop-link : goal.invariant-loop-link
invariant-loop-link l = l.list ++ l.link-iterator ≡ l.found.keys
