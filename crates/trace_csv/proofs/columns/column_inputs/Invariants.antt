use Rattle.std.proofs.Common.{◌≡◌, ◌++◌, map, drop, length, All}
use Rattle.csv.specs.Records.{fields_of}
use Rattle.trace_csv.specs.Columns.{column_input}
use Rattle.trace_csv.specs.Fields.{further_fields}
use Rattle.trace_csv.specs.internal.Filling.{Within}
use Rattle.trace_csv.proofs.columns.column_inputs.Given as goal

abbrev pub invariant-loop-at : goal.invariant-loop-at
invariant-loop-at l = record {
  made : l.places.items ++ map (column_input l.keys l.objects) (drop l.at (fields_of l.row))
      ≡ map (column_input l.keys l.objects) (further_fields (fields_of l.row));
  within : All (Within (length l.keys)) l.places.items;
}
