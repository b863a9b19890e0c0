use Rattle.std.proofs.Common.{◌≡◌, take}
use Rattle.rule_parser.specs.Projects.{settings_among}
use Rattle.rule_parser.proofs.rules.settings_among.Given as goal

abbrev pub invariant-loop-link : goal.invariant-loop-link
invariant-loop-link l = l.list ≡ settings_among l.found (take l.link-index l.links)
