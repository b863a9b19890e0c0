use Rattle.std.proofs.Common.{◌≡◌, drop}
use Rattle.rule_parser.specs.Projects.{links_with}
use Rattle.rule_parser.specs.internal.Views.{action_links}
use Rattle.rule_parser.proofs.noted.add_links.Given as goal

abbrev pub invariant-loop-action : goal.invariant-loop-action
invariant-loop-action l =
    links_with l.found.keys (action_links (drop l.action-index l.actions))
    ≡ links_with l.initial.found.keys (action_links l.actions)
