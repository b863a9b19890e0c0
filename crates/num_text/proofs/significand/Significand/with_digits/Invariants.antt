use Rattle.std.proofs.Common.{ℕ, ◌+◌, ◌≤◌, List, ◌++◌, take}
use Rattle.num_text.specs.internal.Significands.{IsSignificandOf, zeros_held}
use Rattle.num_text.proofs.significand.Significand.with_digits.Given as goal

-- the significand so far is that of the digits so far
abbrev pub invariant-loop-digit : goal.invariant-loop-digit
invariant-loop-digit l =
    ((front : List ℕ) → IsSignificandOf l.fn.self front → IsSignificandOf l.so_far (front ++ take l.digit-index l.digits)) × (zeros_held l.so_far ≤ zeros_held l.fn.self + l.digit-index)
