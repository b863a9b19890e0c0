-- A line that was held whole is reported as any other.
use Rattle.byte_edge.proofs.line_reader.LineReader.advance.Goals as goal

pub returns-then-take_held_line-clause-answer : goal.returns-then-take_held_line-clause-answer
returns-then-take_held_line-clause-answer g c =
    (c.take_held_line.ensures.taken c.if-take_held_line.true _, c.take_held_line.ensures.short c.if-take_held_line.true)
