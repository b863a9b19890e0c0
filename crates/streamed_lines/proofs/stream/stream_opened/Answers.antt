use Rattle.streamed_lines.proofs.Finishing.{opened_prints}
use Rattle.streamed_lines.proofs.stream.stream_opened.Goals as goal

pub returns-clause-prints : goal.returns-clause-prints
returns-clause-prints g c =
    opened_prints (g.P.LinePrinter.printed c.args.printer.now 1) c.in-Ok.reader
    (g.F.Files.left c.args.files.now 1) (g.F.Files.left c.print_lines-ended.new.files 1)
    (g.O.Sink.written c.args.out.now) (g.O.Sink.written c.print_lines-ended.new.out)
    (g.O.Sink.written c.finish.new.out) c.print_lines-ended.new.text.items
    (g.O.Sink.faults c.print_lines-ended.new.out) (g.O.Sink.faults c.finish.new.out)
    c.print_lines-ended.result c.finish.result
    c.in-Ok.ensures.held c.in-Ok.ensures.ended c.in-Ok.ensures.limit c.in-Ok.ensures.room
    c.print_lines-ended.ensures.waits (rw c.deref.ensures.value at c.finish.ensures.finishes)
