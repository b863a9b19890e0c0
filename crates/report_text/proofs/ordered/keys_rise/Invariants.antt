use Rattle.std.proofs.Common.{◌≡◌, ◌-◌, ◌<◌, Less, length}
use Rattle.std.specs.List.{AllAdjacentBelow}
use Rattle.rule_types.specs.KeyOrder.{key_cmp}
use Rattle.report_text.proofs.ordered.keys_rise.Given as goal

abbrev pub invariant-keys : goal.invariant-keys
invariant-keys l = (0 < l.at) × AllAdjacentBelow (λ a b. key_cmp a b ≡ Less) l.keys l.at

abbrev pub decreases-keys : goal.decreases-keys
decreases-keys l = length l.keys - l.at
