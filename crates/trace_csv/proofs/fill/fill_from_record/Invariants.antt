use Rattle.std.proofs.Common.{◌≡◌, ◌+◌, drop, length}
use Rattle.csv.specs.Records.{fields_of}
use Rattle.trace_csv.specs.Fields.{further_fields}
use Rattle.trace_csv.specs.internal.Filling.{filled}
use Rattle.trace_csv.proofs.fill.fill_from_record.Given as goal

abbrev pub invariant-loop-at : goal.invariant-loop-at
invariant-loop-at l = record {
  filled : filled (drop l.at l.columns) (drop (l.at + 1) (fields_of l.row)) l.inputs
      ≡ filled l.columns (further_fields (fields_of l.row)) l.fn.inputs;
  long : length l.inputs ≡ length l.fn.inputs;
}
