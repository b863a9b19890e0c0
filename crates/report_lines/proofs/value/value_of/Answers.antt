use Rattle.report_lines.proofs.WrittenValues.{value_read}
use Rattle.report_lines.proofs.value.value_of.Goals as goal

pub returns : goal.returns
returns c =
    value_read c.args.word.now c.read_value.result c.read_value.ensures.written c.read_value.ensures.held
    c.read_value.ensures.every
