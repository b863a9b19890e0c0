use Rattle.premise_eval.proofs.MarkSteps.{mark_here, mark_past}
use Rattle.premise_eval.proofs.marks.mark.Goals as goal

pub returns-then-at-marks : goal.returns-then-at-marks
returns-then-at-marks c = record { marks = mark_here c.args.marks.now c.args.name c.if-at-marks.true }

pub returns-else-at-marks : goal.returns-else-at-marks
returns-else-at-marks c = record { marks = mark_past c.args.marks.now c.args.name c.if-at-marks.false }
