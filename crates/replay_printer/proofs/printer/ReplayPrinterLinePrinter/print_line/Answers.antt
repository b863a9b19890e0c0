use Rattle.std.proofs.Common.{rules, ◌≡◌, None, length, subst}
use Rattle.trace_replay.specs.Progress.{kept_of}
use Rattle.replay_printer.specs.Printing.{HeaderFits}
use Rattle.replay_printer.proofs.Ready.{ready_line}
use Rattle.replay_printer.proofs.Steps.{header_line_step}
use Rattle.replay_printer.proofs.printer.ReplayPrinterLinePrinter.print_line.Goals as goal

pub returns-in-Ok-clause-still_ready : goal.returns-in-Ok-clause-still_ready
returns-in-Ok-clause-still_ready g c =
    let none : c.args.self.now.header ≡ None = search rules in
    record {
      reads = c.requires.ready.reads;
      for_rules = c.requires.ready.for_rules;
      replayed = c.requires.ready.replayed;
      line =
          ready_line (g.R.Reads.choice c.args.self.now.replay.readings) c.args.self.now.replay.rules.now c.rules.result.now
          (g.R.Reads.held c.args.self.now.replay.readings) c.args.self.now.objects.now c.args.self.now.header c.in-Ok.header
          (kept_of c.args.self.now.replay.progress) (length c.args.self.now.inputs.items) c.args.line.now c.args.text.now.items
          c.take_header.new.text.items c.args.number none c.rules.ensures.rules c.in-Ok.ensures.prints c.requires.ready.line;
    }

pub returns-in-Ok-clause-prints : goal.returns-in-Ok-clause-prints
returns-in-Ok-clause-prints g c =
    let none : c.args.self.now.header ≡ None = search rules in
    header_line_step (g.R.Reads.choice c.args.self.now.replay.readings) c.args.self.now.replay.rules.now
    (g.R.Reads.held c.args.self.now.replay.readings) c.args.self.now.objects.now c.rules.result.now (kept_of c.args.self.now.replay.progress)
    c.args.self.now.header c.in-Ok.header c.args.line.now c.args.text.now.items c.take_header.new.text.items c.args.number
    c.requires.ready.line.rules.formed none c.rules.ensures.rules
    (subst (HeaderFits c.args.self.now.replay.rules.now (kept_of c.args.self.now.replay.progress)) none c.requires.ready.line.columns)
    c.in-Ok.ensures.prints
