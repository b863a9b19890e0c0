use Rattle.std.proofs.Common.{rules}
use Rattle.command_outputs.specs.Messages.{StopInRule}
use Rattle.command_outputs.proofs.refusal_line.RefusalLine.stop_in_rule.Goals as goal

pub invariant_of-result : goal.invariant_of-result
invariant_of-result c = record { text = StopInRule c.args.line c.args.rule c.args.branch c.args.action; cause = tt; is = search rules }
