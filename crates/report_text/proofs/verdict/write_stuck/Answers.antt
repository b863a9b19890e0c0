use Rattle.std.proofs.Common.{ap}
use Rattle.std.proofs.lemmas.Result.{on_ok_weaker}
use Rattle.report_lines.specs.Reports.{cell_text}
use Rattle.report_text.specs.WrittenReports.{cell_lines, stuck_lines}
use Rattle.report_text.proofs.Joining.{lines_written}
use Rattle.report_text.proofs.verdict.write_stuck.Goals as goal

pub returns-in_ok-write_line-in-Cell : goal.returns-in_ok-write_line-in-Cell
returns-in_ok-write_line-in-Cell c =
    on_ok_weaker c.write_cell.result
    (lines_written cell_text (cell_lines c.args.objects.now c.in-Cell.cell) (stuck_lines c.args.objects.now c.args.why.now)
    c.args.out.now.items c.write_line.new.out.items c.write_cell.new.out.items
    (ap (stuck_lines c.args.objects.now) c.in-Cell.is) c.in_ok-write_line-in-Cell.ensures)
    c.write_cell.ensures
