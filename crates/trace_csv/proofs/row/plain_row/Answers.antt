use Rattle.std.proofs.Common.{◌≡◌, ◌+◌, length, arith}
use Rattle.trace_csv.specs.Records.{cut_at_commas}
use Rattle.trace_csv.proofs.RowsIn.{row_by, row_miscounted}
use Rattle.trace_csv.proofs.row.plain_row.Goals as goal

pub returns-then-commas-columns-clause-row : goal.returns-then-commas-columns-clause-row
returns-then-commas-columns-clause-row c =
    row_miscounted (record { columns = c.args.columns.now; inputs = length c.args.inputs.now }) c.args.last.now c.args.start.now (cut_at_commas c.args.line.now)
    (λ (e : length (cut_at_commas c.args.line.now) ≡ 1 + length c.args.columns.now). c.if-commas-columns.true (omega arith))

pub returns-clause-row : goal.returns-clause-row
returns-clause-row c =
    row_by (record { columns = c.args.columns.now; inputs = length c.args.inputs.now }) c.args.last.now c.args.start.now (cut_at_commas c.args.line.now)
    c.next_field-cut.result.field.now _ c.moment_in-moment.result _ c.next_field-cut.ensures (omega arith)
    c.moment_in-moment.ensures.value c.row_behind.ensures.row
