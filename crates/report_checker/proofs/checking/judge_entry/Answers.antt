use Rattle.std.proofs.Common.{rules}
use Rattle.report_checker.specs.Accepted.{entry_fault}
use Rattle.report_reader.specs.Answers.{entry_now}
use Rattle.report_checker.proofs.JudgedSteps.{none_judged}
use Rattle.report_checker.proofs.checking.judge_entry.Goals as goal

pub returns-in-None : goal.returns-in-None
returns-in-None c =
    record { step = none_judged c.args.place.now.counts (entry_now c.args.read.now) c.count_entry.result c.in-Ok.fault (entry_fault c.args.rules.now c.args.tables.now c.args.ranges.now c.args.place.now.at (entry_now c.args.read.now).value) c.in-None.is (search rules) c.count_entry.ensures.step }
