use Rattle.std.proofs.Common.{◌≡◌, ◌<◌, ◌^◌, true, take}
use Rattle.std.specs.List.{list_all}
use Rattle.std.specs.Char.{is_ascii_digit}
use Rattle.std.specs.Str.Parse.{digits_value_after}
use Rattle.trace_csv.proofs.plain_number.digits_at_head.Given as goal

abbrev pub invariant-loop-at : goal.invariant-loop-at
invariant-loop-at l = record {
  alone : list_all is_ascii_digit (take l.at l.text) ≡ true;
  value : l.number ≡ digits_value_after 10 l.fn.front (take l.at l.text);
  small : l.number < 10 ^ 18;
}
