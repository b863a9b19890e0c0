use Rattle.std.proofs.Common.{ℕ, List, ◌++◌, take}
use Rattle.num_text.specs.internal.Significands.{IsHeld}
use Rattle.num_text.proofs.narrow.NarrowSignificand.with_digits.Given as goal

-- the significand so far is that of the digits so far
abbrev pub invariant-loop-digit : goal.invariant-loop-digit
invariant-loop-digit l =
    (front : List ℕ) → IsHeld l.fn.self.number l.fn.self.zeros front → IsHeld l.so_far.number l.so_far.zeros (front ++ take l.digit-index l.digits)
