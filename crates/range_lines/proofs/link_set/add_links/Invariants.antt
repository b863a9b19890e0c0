use Rattle.std.proofs.Common.{◌≡◌, drop}
use Rattle.range_lines.specs.Entries.{in_link_order}
use Rattle.range_lines.specs.internal.Views.{action_links}
use Rattle.range_lines.proofs.link_set.add_links.Given as goal

abbrev pub invariant-loop-action : goal.invariant-loop-action
invariant-loop-action l =
    in_link_order l.found.keys (action_links (drop l.action-index l.actions))
    ≡ in_link_order l.initial.found.keys (action_links l.actions)
