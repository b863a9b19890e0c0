use Rattle.std.proofs.lemmas.Result.{err_from_is_err_and}
use Rattle.command_outputs.specs.Outcomes.{ranges_file}
use Rattle.verdict_commands.specs.Preparing.{prepared_read, ranges_judged}
use Rattle.verdict_commands.proofs.FilesJudged.{judged_stage, unread_stage}
use Rattle.verdict_commands.proofs.prepared.read_ranges_file.Goals as goal

pub returns-in_err-lines : goal.returns-in_err-lines
returns-in_err-lines g c =
    let p = err_from_is_err_and c.from_residual.result c.from_residual.ensures.1 in
    rw (p.1, p.2) (record {
      passes = unread_stage ranges_file (ranges_judged c.args.project) prepared_read _
          c.in_err-lines.field-0.0 c.in_err-lines.ensures.passes;
      ready = tt;
    })

pub returns : goal.returns
returns g c = record {
  passes = judged_stage ranges_file (ranges_judged c.args.project) prepared_read _
      c.in_ok-lines.lines c.judge-answer.result c.in_ok-lines.ensures.passes
      c.judge-answer.ensures.judges;
  ready = c.judge-answer.ensures.ready;
}
