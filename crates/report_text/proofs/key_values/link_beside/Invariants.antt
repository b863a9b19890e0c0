use Rattle.std.proofs.Common.{◌≡◌, ◌==◌, length}
use Rattle.rule_meaning.specs.State.{beside}
use Rattle.report_text.proofs.key_values.link_beside.Given as goal

-- what is found in the rest is what is found in all
abbrev pub invariant-links : goal.invariant-links
invariant-links l =
    beside (λ other. l.link == other) l.links_left l.states_left
    ≡ beside (λ other. l.link == other) l.links l.states

abbrev pub decreases-links : goal.decreases-links
decreases-links l = length l.links_left
