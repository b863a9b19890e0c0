use Rattle.std.proofs.Common.{rules}
use Rattle.command_outputs.specs.Messages.{Fault}
use Rattle.command_outputs.proofs.refusal_line.RefusalLine.fault.Goals as goal

pub invariant_of-result : goal.invariant_of-result
invariant_of-result c = record { text = Fault c.args.place c.args.name.now c.args.number c.args.token.now; cause = c.requires.cause; is = search rules }
