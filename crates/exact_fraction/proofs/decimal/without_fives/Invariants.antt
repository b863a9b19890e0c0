-- The quotient is the same throughout.
use Rattle.std.proofs.Common.{◌≡◌, ◌*◌, ◌^◌}
use Rattle.exact_fraction.proofs.decimal.without_fives.Given as goal

abbrev pub invariant-loop-fives : goal.invariant-loop-fives
invariant-loop-fives l = l.fn.n * 5 ^ l.fives ≡ l.rest * 5 ^ l.fn.most

abbrev pub decreases-loop-fives : goal.decreases-loop-fives
decreases-loop-fives l = l.fives
