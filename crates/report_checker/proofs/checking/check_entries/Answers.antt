use Rattle.std.proofs.Common.{◌≡◌, ◌-◌, ◌<◌, Result, arith}
use Rattle.report_checker.specs.Accepted.{entries_judged, no_counts}
use Rattle.report_checker.specs.declared.counts.Counts.{Counts}
use Rattle.report_checker.specs.declared.fault.ReportFault.{ReportFault}
use Rattle.report_checker.proofs.JudgedSteps.{end_judged, goes_on, last_judged, stop_judged}
use Rattle.report_checker.proofs.checking.check_entries.Goals as goal

pub returns-in-Err : goal.returns-in-Err
returns-in-Err c =
    let x = c.args.report.now.rules.now in
    let objects = c.args.report.now.objects.now in
    let lines = c.args.report.now.lines.now in
    let facts = c.args.report.now.facts in
    let due : Result Counts ReportFault =
    entries_judged x c.args.tables.now objects c.args.ranges.now lines facts c.args.most 1 no_counts in
    let within : c.loop-turn._turn < c.args.most = omega (arith, c.loop-turn-test.true) in
    record { answer = stop_judged x c.args.tables.now objects c.args.ranges.now lines facts c.args.most c.loop-turn._turn c.loop-turn.place.at c.loop-turn.place.counts due c.in-Err.stop within c.loop-turn.invariant c.in-Err.ensures.step }

pub returns-in_default : goal.returns-in_default
returns-in_default c =
    let x = c.args.report.now.rules.now in
    let objects = c.args.report.now.objects.now in
    let lines = c.args.report.now.lines.now in
    let facts = c.args.report.now.facts in
    let due : Result Counts ReportFault =
    entries_judged x c.args.tables.now objects c.args.ranges.now lines facts c.args.most 1 no_counts in
    let within : c.loop-turn._turn < c.args.most = omega (arith, c.loop-turn-test.true) in
    record { answer = end_judged x c.args.tables.now objects c.args.ranges.now lines facts c.args.most c.loop-turn._turn c.loop-turn.place.at c.loop-turn.place.counts due c.in-Ok.found within c.loop-turn.invariant c.in_default.is c.in-Ok.ensures.step }

pub loop-turn-preserved : goal.loop-turn-preserved
loop-turn-preserved c =
    let x = c.args.report.now.rules.now in
    let objects = c.args.report.now.objects.now in
    let lines = c.args.report.now.lines.now in
    let facts = c.args.report.now.facts in
    let due : Result Counts ReportFault =
    entries_judged x c.args.tables.now objects c.args.ranges.now lines facts c.args.most 1 no_counts in
    let within : c.loop-turn._turn < c.args.most = omega (arith, c.loop-turn-test.true) in
    goes_on x c.args.tables.now objects c.args.ranges.now lines facts c.args.most c.loop-turn._turn
    c.loop-turn.place.at c.loop-turn.place.counts due c.in-Ok.found c.in-Some.next within
    c.loop-turn.invariant c.in-Some.is c.in-Ok.ensures.step

pub returns : goal.returns
returns c =
    let x = c.args.report.now.rules.now in
    let objects = c.args.report.now.objects.now in
    let lines = c.args.report.now.lines.now in
    let facts = c.args.report.now.facts in
    let due : Result Counts ReportFault =
    entries_judged x c.args.tables.now objects c.args.ranges.now lines facts c.args.most 1 no_counts in
    let none : c.args.most - c.loop-turn._turn ≡ 0 = omega (arith, c.loop-turn-test.false) in
    record { answer = last_judged x c.args.tables.now objects c.args.ranges.now lines facts (c.args.most - c.loop-turn._turn) c.loop-turn.place.at c.loop-turn.place.counts due c.shape_at.result none c.loop-turn.invariant c.shape_at.ensures }
