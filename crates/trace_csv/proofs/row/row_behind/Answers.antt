use Rattle.std.proofs.Common.{length, true, false, sym, ap, ◌∙◌}
use Rattle.trace_csv.specs.Rows.{row_at}
use Rattle.trace_csv.specs.internal.Filling.{filled}
use Rattle.trace_csv.proofs.RowsIn.{row_filled}
use Rattle.trace_csv.proofs.row.row_behind.Goals as goal

pub returns-then-not-fill_from_text-clause-row : goal.returns-then-not-fill_from_text-clause-row
returns-then-not-fill_from_text-clause-row c =
    row_filled (record { columns = c.args.columns.now; inputs = length c.args.inputs.now }) _ c.in-Ok.moment false c.fill_from_text.new.inputs
    c.requires.within c.requires.single (c.if-not-fill_from_text.ensures ∙ ap (filled c.args.columns.now _) c.clear.ensures)
    ∙ ap (row_at (record { columns = c.args.columns.now; inputs = length c.args.inputs.now }) _) (sym c.in-Ok.is)

pub returns-clause-row : goal.returns-clause-row
returns-clause-row c =
    row_filled (record { columns = c.args.columns.now; inputs = length c.args.inputs.now }) _ c.in-Ok.moment true c.fill_from_text.new.inputs
    c.requires.within c.requires.single (c.if-not-fill_from_text.ensures ∙ ap (filled c.args.columns.now _) c.clear.ensures)
    ∙ ap (row_at (record { columns = c.args.columns.now; inputs = length c.args.inputs.now }) _) (sym c.in-Ok.is)
