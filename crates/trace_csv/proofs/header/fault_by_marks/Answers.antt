use Rattle.std.proofs.Common.{length, true, false}
use Rattle.trace_csv.proofs.Marks.{fault_marked}
use Rattle.trace_csv.proofs.header.fault_by_marks.Goals as goal

pub returns-then-not-are_marked : goal.returns-then-not-are_marked
returns-then-not-are_marked c =
    fault_marked c.args.columns.now (length c.args.given.now) c.marks_twice.new.given false
    c.if-marks_twice.ensures.twice c.marks_twice.ensures.given c.if-not-are_marked.ensures

pub returns : goal.returns
returns c =
    fault_marked c.args.columns.now (length c.args.given.now) c.marks_twice.new.given true
    c.if-marks_twice.ensures.twice c.marks_twice.ensures.given c.if-not-are_marked.ensures
