use Rattle.std.proofs.Common.{◌≡◌, take}
use Rattle.rule_parser.specs.Projects.{pumps_among}
use Rattle.rule_parser.proofs.rules.pumps_among.Given as goal

abbrev pub invariant-loop-link : goal.invariant-loop-link
invariant-loop-link l = l.list ≡ pumps_among l.objects (take l.link-index l.links)
