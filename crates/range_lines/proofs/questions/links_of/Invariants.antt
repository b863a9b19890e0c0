use Rattle.std.proofs.Common.{◌≡◌, take, map}
use Rattle.range_lines.specs.Questions.{rule_links}
use Rattle.range_lines.proofs.questions.links_of.Given as goal

abbrev pub invariant-loop-rule : goal.invariant-loop-rule
invariant-loop-rule l = l.sets.items ≡ map rule_links (take l.rule-index l.rules)
