use Rattle.std.proofs.Common.{◌≡◌, ◌+◌, length, true, false, ap, ◌∙◌, arith}
use Rattle.csv.specs.Records.{fields_of}
use Rattle.trace_csv.specs.Fields.{further_fields}
use Rattle.trace_csv.specs.internal.Filling.{filled}
use Rattle.trace_csv.proofs.RecordFields.{has_first}
use Rattle.trace_csv.proofs.RowsIn.{row_made, row_untimed, row_miscounted}
use Rattle.trace_csv.proofs.row.record_row.Goals as goal

pub returns-then-len-columns-clause-row : goal.returns-then-len-columns-clause-row
returns-then-len-columns-clause-row c =
    row_miscounted (record { columns = c.args.columns.now; inputs = length c.args.inputs.now }) c.args.last.now c.args.start.now (fields_of c.args.row.now)
    (λ (e : length (fields_of c.args.row.now) ≡ 1 + length c.args.columns.now). c.if-len-columns.true (omega arith))

pub returns-in-Err-clause-row : goal.returns-in-Err-clause-row
returns-in-Err-clause-row c =
    row_untimed (record { columns = c.args.columns.now; inputs = length c.args.inputs.now }) c.args.last.now c.args.start.now (fields_of c.args.row.now)
    c.first_field.result.now (further_fields (fields_of c.args.row.now)) c.in-Err.cause (has_first (fields_of c.args.row.now) c.first_field.result.now (length c.args.columns.now) c.first_field.ensures (omega arith)) (omega arith) c.in-Err.ensures.value

pub returns-then-not-fill_from_record-clause-row : goal.returns-then-not-fill_from_record-clause-row
returns-then-not-fill_from_record-clause-row c =
    row_made (record { columns = c.args.columns.now; inputs = length c.args.inputs.now }) c.args.last.now c.args.start.now (fields_of c.args.row.now)
    c.first_field.result.now (further_fields (fields_of c.args.row.now)) c.in-Ok.moment false c.fill_from_record.new.inputs
    (has_first (fields_of c.args.row.now) c.first_field.result.now (length c.args.columns.now) c.first_field.ensures (omega arith)) (omega arith) c.in-Ok.ensures.value c.requires.within c.requires.single
    (c.if-not-fill_from_record.ensures ∙ ap (filled c.args.columns.now _) c.clear.ensures)

pub returns-clause-row : goal.returns-clause-row
returns-clause-row c =
    row_made (record { columns = c.args.columns.now; inputs = length c.args.inputs.now }) c.args.last.now c.args.start.now (fields_of c.args.row.now)
    c.first_field.result.now (further_fields (fields_of c.args.row.now)) c.in-Ok.moment true c.fill_from_record.new.inputs
    (has_first (fields_of c.args.row.now) c.first_field.result.now (length c.args.columns.now) c.first_field.ensures (omega arith)) (omega arith) c.in-Ok.ensures.value c.requires.within c.requires.single
    (c.if-not-fill_from_record.ensures ∙ ap (filled c.args.columns.now _) c.clear.ensures)
