use Rattle.std.proofs.Common.{◌≡◌, ◌++◌, map}
use Rattle.grid_cuts.specs.internal.NumberOrder.{number_of}
use Rattle.grid_cuts.proofs.rising_numbers.numbers_of.Given as goal

-- the numbers so far, and those that are left
abbrev pub invariant-loop-cut : goal.invariant-loop-cut
invariant-loop-cut l =
    l.list.items ++ map number_of l.cut-iterator ≡ map number_of l.set.keys
