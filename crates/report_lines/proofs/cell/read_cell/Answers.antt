use Rattle.std.proofs.Common.{◌≡◌, [], IfOk, ap, sym, subst, ◌∙◌}
use Rattle.report_lines.specs.internal.Views.{reading_now, pieces_go_on}
use Rattle.report_lines.proofs.StateSteps.{cell_is}
use Rattle.report_lines.proofs.cell.read_cell.Goals as goal

pub returns-in-Ok : goal.returns-in-Ok
returns-in-Ok c =
    let body = c.args.body in
    subst (λ due. IfOk c.cell_with.result (λ read. reading_now read ≡ due))
    (cell_is body.lines.now body.objects.now body.grid.now c.args.at c.in-Ok.read.place
    c.in-Ok.read.pieces
    (ap (pieces_go_on body.lines.now body.objects.now []) (sym c.in-Ok.is) ∙ c.in_ok-read.ensures))
    c.cell_with.ensures
