use Rattle.std.proofs.Common.{◌≡◌, take}
use Rattle.rule_parser.specs.Projects.{rates_among}
use Rattle.rule_parser.proofs.rules.rates_among.Given as goal

abbrev pub invariant-loop-link : goal.invariant-loop-link
invariant-loop-link l = l.list ≡ rates_among l.found (take l.link-index l.links)
