use Rattle.trace_tally.proofs.FirstLines.{cut_found, cut_absent}
use Rattle.trace_tally.proofs.byte_lines.line_end.Goals as goal

pub returns-in-Some-clause-lines : goal.returns-in-Some-clause-lines
returns-in-Some-clause-lines c = (cut_found c.args.bytes.now c.in-Some.at c.in-Some.ensures).lines

pub returns-in-None-clause-lines : goal.returns-in-None-clause-lines
returns-in-None-clause-lines c = (cut_absent c.args.bytes.now c.in-None.ensures c.requires.some).lines
