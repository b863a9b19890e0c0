use Rattle.std.proofs.Common.{◌≡◌, take, map}
use Rattle.range_lines.specs.internal.Ids.{IsIndexed}
use Rattle.range_lines.proofs.rule_ids.RuleIds.of.Given as goal

abbrev pub invariant-loop-index : goal.invariant-loop-index
invariant-loop-index l =
    (l.ids.items ≡ map (λ rule. rule.id) (take l.index l.rules))
    × IsIndexed l.ids.items l.exact l.caseless
