use Rattle.std.proofs.Common.{Result, subst}
use Rattle.command_outputs.specs.Commands.{CountsAfter}
use Rattle.command_outputs.specs.declared.complaint.Complaint.{Complaint}
use Rattle.command_outputs.specs.declared.completion.Completion.{Completion}
use Rattle.command_outputs.proofs.Conclusions.{complaint_said}
use Rattle.command_outputs.proofs.conclusion.conclude.Goals as goal

pub returns-in-Err-clause-says : goal.returns-in-Err-clause-says
returns-in-Err-clause-says g c = λ usage roles outcome was now out_was out_now performs.
    let P : Result Completion Complaint → Type 0 =
    λ answer. CountsAfter roles (g.F.Files.faults was) (g.F.Files.faults now)
    (g.O.Sink.faults out_was) (g.O.Sink.faults out_now) answer in
    complaint_said usage roles (g.F.Files.faults was) (g.F.Files.faults now)
    (g.O.Sink.faults out_was) (g.O.Sink.faults out_now)
    (g.E.Sink.faults c.args.err.now) (g.E.Sink.faults c.complain.new.err)
    (g.E.Sink.written c.args.err.now) (g.E.Sink.written c.complain.new.err)
    c.in-Err.complaint c.complain.result
    c.complain.ensures.line (subst P c.in-Err.is performs.counts) c.complain.ensures.tells
