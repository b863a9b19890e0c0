use Rattle.report_lines.specs.Reports.{next_from}
use Rattle.report_checker.proofs.JudgedSteps.{read_judged}
use Rattle.report_checker.proofs.checking.judge_next.Goals as goal

pub returns-in-Ok : goal.returns-in-Ok
returns-in-Ok c =
    record { step = read_judged c.args.report.now.rules.now c.args.tables.now c.args.ranges.now c.args.place.now.at c.args.place.now.counts (next_from c.args.report.now.lines.now c.args.report.now.rules.now c.args.report.now.objects.now c.args.report.now.facts c.args.place.now.at) c.in-Ok.found c.after_read.result c.in-Ok.ensures.value c.after_read.ensures.step }
