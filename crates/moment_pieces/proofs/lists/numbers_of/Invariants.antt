use Rattle.std.proofs.Common.{◌≡◌, ◌++◌}
use Rattle.moment_pieces.proofs.lists.numbers_of.Given as goal

-- the numbers so far, and those that are left
abbrev pub invariant-loop-number : goal.invariant-loop-number
invariant-loop-number l = l.list.items ++ l.number-iterator ≡ l.set.keys
