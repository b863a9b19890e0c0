use Rattle.std.proofs.lemmas.Result.{err_from_is_err_and}
use Rattle.command_outputs.specs.Outcomes.{report_file}
use Rattle.verdict_commands.specs.Verifies.{counts_read, counts_judged}
use Rattle.verdict_commands.proofs.FilesJudged.{judged_stage, unread_stage}
use Rattle.verdict_commands.proofs.report.read_report_file.Goals as goal

pub returns-in_err-lines : goal.returns-in_err-lines
returns-in_err-lines g c =
    let p = err_from_is_err_and c.from_residual.result c.from_residual.ensures.1 in
    rw (p.1, p.2) (record {
      passes = unread_stage report_file (counts_judged c.args.prepared.now) counts_read _
          c.in_err-lines.field-0.0 c.in_err-lines.ensures.passes;
    })

pub returns : goal.returns
returns g c = record {
  passes = judged_stage report_file (counts_judged c.args.prepared.now) counts_read _
      c.in_ok-lines.lines c.judge-answer.result c.in_ok-lines.ensures.passes
      c.judge-answer.ensures.judges;
}
