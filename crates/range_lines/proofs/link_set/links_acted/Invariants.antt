use Rattle.std.proofs.Common.{◌≡◌, [], drop}
use Rattle.rule_types.specs.Reading.{links_acted}
use Rattle.range_lines.specs.Entries.{in_link_order}
use Rattle.range_lines.proofs.link_set.links_acted.Given as goal

abbrev pub invariant-loop-rule : goal.invariant-loop-rule
invariant-loop-rule l =
    in_link_order l.found.keys (links_acted (drop l.rule-index l.rules))
    ≡ in_link_order [] (links_acted l.rules)
