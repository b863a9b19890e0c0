use Rattle.std.proofs.Common.{◌≡◌, ◌++◌, ◌%◌, not}
use Rattle.std.specs.List.{filter}
use Rattle.moment_pieces.specs.internal.Turns.{stands_in}
use Rattle.moment_pieces.proofs.lists.numbers_apart.Given as goal

-- the numbers so far, and those that are left, without those at a second of each day
abbrev pub invariant-loop-number : goal.invariant-loop-number
invariant-loop-number l =
    l.list.items ++ filter (λ m. not (stands_in l.daily (m % 86400))) l.number-iterator
    ≡ filter (λ m. not (stands_in l.daily (m % 86400))) l.set.keys
