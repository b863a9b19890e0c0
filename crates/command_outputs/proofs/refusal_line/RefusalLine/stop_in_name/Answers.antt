use Rattle.std.proofs.Common.{rules}
use Rattle.command_outputs.specs.Messages.{StopInName}
use Rattle.command_outputs.proofs.refusal_line.RefusalLine.stop_in_name.Goals as goal

pub invariant_of-result : goal.invariant_of-result
invariant_of-result c = record { text = StopInName c.args.line c.args.cause c.args.name.now; cause = tt; is = search rules }
