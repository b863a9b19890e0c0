use Rattle.std.proofs.Common.{◌≡◌, take, true}
use Rattle.std.specs.List.{list_all}
use Rattle.trace_csv.specs.Records.{is_plain}
use Rattle.trace_csv.proofs.PlainFields.{is_other}
use Rattle.trace_csv.proofs.record.next_plain_field.Given as goal

abbrev pub invariant-loop-at : goal.invariant-loop-at
invariant-loop-at l = record {
  others : list_all is_other (take l.at l.text) ≡ true;
  plain : list_all is_plain (take l.at l.text) ≡ true;
}
