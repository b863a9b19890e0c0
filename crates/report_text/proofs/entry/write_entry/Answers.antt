use Rattle.std.proofs.lemmas.Result.{on_ok_weaker}
use Rattle.report_text.specs.WrittenLines.{written_question}
use Rattle.report_text.specs.WrittenReports.{verdict_lines, entry_lines}
use Rattle.report_text.proofs.Joining.{lines_written, entry_is}
use Rattle.report_text.proofs.entry.write_entry.Goals as goal

pub returns : goal.returns
returns c =
    let x = c.args.rules.now in
    let objects = c.args.objects.now in
    let grid = c.args.grid.now in
    record {
      text = on_ok_weaker c.write_verdict.result
          (lines_written (written_question objects c.args.question.now) (verdict_lines x objects grid c.args.verdict.now)
          (entry_lines x objects grid c.args.question.now c.args.verdict.now) c.args.out.now.items
          c.write_question.new.out.items c.write_verdict.new.out.items
          (entry_is x objects grid c.args.question.now c.args.verdict.now) c.in_ok-write_question.ensures)
          c.write_verdict.ensures;
    }
