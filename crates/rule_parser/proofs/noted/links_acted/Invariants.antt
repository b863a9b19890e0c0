use Rattle.std.proofs.Common.{◌≡◌, [], drop}
use Rattle.rule_types.specs.Reading.{links_acted}
use Rattle.rule_parser.specs.Projects.{links_with}
use Rattle.rule_parser.proofs.noted.links_acted.Given as goal

abbrev pub invariant-loop-rule : goal.invariant-loop-rule
invariant-loop-rule l =
    links_with l.found.keys (links_acted (drop l.rule-index l.rules))
    ≡ links_with [] (links_acted l.rules)
