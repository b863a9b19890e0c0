use Rattle.std.proofs.Common.{◌≡◌, ◌++◌, take, drop}
use Rattle.num_text.specs.Fields.{leading_digits, past_digits}
use Rattle.num_text.proofs.fields.digit_count.Given as goal

-- the bytes so far are digits, and the text's digits go on with those of what is left
abbrev pub invariant-loop-i : goal.invariant-loop-i
invariant-loop-i l = (take l.i l.text ++ leading_digits (drop l.i l.text) ≡ leading_digits l.text) × (past_digits (drop l.i l.text) ≡ past_digits l.text)
