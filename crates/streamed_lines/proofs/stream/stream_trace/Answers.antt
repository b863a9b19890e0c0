use Rattle.std.proofs.Common.{rules, ◌≡◌, false}
use Rattle.byte_edge.specs.Devices.{IsCallOn}
use Rattle.streamed_lines.proofs.Finishing.{opened_streams}
use Rattle.streamed_lines.proofs.stream.stream_trace.Goals as goal

pub returns : goal.returns
returns g c =
    let files = c.args.files.now in
    let mid = c.open_file.new.self in
    let opened : g.F.Files.is_open mid 1 = search rules in
    let placed : g.F.Files.left mid 1 ≡ g.F.Files.held files c.args.name.now = search rules in
    let call : IsCallOn 1 false (g.F.Files.is_open files) (g.F.Files.is_open mid)
    (g.F.Files.held files) (g.F.Files.held mid) (g.F.Files.left files) (g.F.Files.left mid)
    (g.F.Files.faults files) (g.F.Files.faults mid) = search rules in
    record {
      streams = opened_streams (g.P.LinePrinter.printed c.args.printer.now 1)
          (g.F.Files.held files c.args.name.now) (g.O.Sink.written c.args.out.now)
          (g.O.Sink.written c.stream_opened.new.out) (g.O.Sink.faults c.args.out.now)
          (g.O.Sink.faults c.stream_opened.new.out) c.stream_opened.result
          opened placed call c.stream_opened.ensures.prints c.stream_opened.ensures.ends
          c.stream_opened.ensures.calls;
    }
