use Rattle.std.proofs.Common.{◌≡◌, ◌≤◌, take}
use Rattle.std.specs.Str.Parse.{digits_value}
use Rattle.num_text.proofs.fields.number_up_to.Given as goal

-- the number that the digits so far write
abbrev pub invariant-loop-digit : goal.invariant-loop-digit
invariant-loop-digit l = (l.number ≡ digits_value 10 (take l.digit-index l.digits)) × (l.number ≤ l.most)
