use Rattle.report_lines.proofs.LineSteps.{past_empty}
use Rattle.report_lines.proofs.key_line.past_text.Goals as goal

pub returns-in-empty : goal.returns-in-empty
returns-in-empty c =
    past_empty c.args.text.now c.args.line.now c.loop-byte.left.now c.loop-byte.byte-index
    c.loop-byte-test.true c.in-empty.len_below c.loop-byte.invariant
