use Rattle.std.proofs.Common.{◌≡◌, ◌<◌, ◌≤◌, ◌^◌}
use Rattle.num_text.specs.Numbers.{without_end_zeros}
use Rattle.num_text.specs.Written.{places}
use Rattle.num_text.proofs.values.Decimals.of.Given as goal

-- what is left are the first decimals, and only zeros were taken off
abbrev pub invariant-loop-left : goal.invariant-loop-left
invariant-loop-left l =
    (0 < l.left) × (l.left < 10 ^ l.count) × (l.count ≤ 18) × (without_end_zeros (places l.count l.left) ≡ without_end_zeros (places 18 l.number))

abbrev pub decreases-loop-left : goal.decreases-loop-left
decreases-loop-left l = l.left
