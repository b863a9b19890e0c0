use Rattle.std.proofs.Common.{◌≡◌, ◌≤◌, ◌==◌, take, true}
use Rattle.std.specs.List.{count_by, list_all}
use Rattle.trace_csv.specs.Records.{comma, is_plain}
use Rattle.trace_csv.proofs.record.commas_of_plain.Given as goal

abbrev pub invariant-loop-byte : goal.invariant-loop-byte
invariant-loop-byte l = record {
  count : l.count ≡ count_by (λ byte. byte == comma) (take l.byte-index l.text);
  plain : list_all is_plain (take l.byte-index l.text) ≡ true;
  small : l.count ≤ l.byte-index;
}
