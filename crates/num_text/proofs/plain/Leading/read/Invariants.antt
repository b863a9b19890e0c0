use Rattle.std.proofs.Common.{◌≡◌, ◌++◌, take, drop}
use Rattle.std.specs.Str.Parse.{digits_value_after}
use Rattle.num_text.specs.Fields.{leading_digits, past_digits}
use Rattle.num_text.proofs.plain.Leading.read.Given as goal

-- the bytes so far are digits, the text's digits go on with those of what is left, and the number
-- is that of the digits so far
abbrev pub invariant-loop-i : goal.invariant-loop-i
invariant-loop-i l =
    (take l.i l.text ++ leading_digits (drop l.i l.text) ≡ leading_digits l.text) × (past_digits (drop l.i l.text) ≡ past_digits l.text) × (l.number ≡ digits_value_after 10 l.fn.front (take l.i l.text))
