-- The quotient is the same throughout.
use Rattle.std.proofs.Common.{◌≡◌, ◌*◌, ◌^◌}
use Rattle.exact_fraction.proofs.decimal.without_twos.Given as goal

abbrev pub invariant-loop-twos : goal.invariant-loop-twos
invariant-loop-twos l = l.fn.n * 2 ^ l.twos ≡ l.rest * 2 ^ l.fn.most

abbrev pub decreases-loop-twos : goal.decreases-loop-twos
decreases-loop-twos l = l.twos
