use Rattle.std.proofs.Common.{length, ap, arith}
use Rattle.byte_edge.proofs.AllLines.{concat-raw_lines, line_events-within, line_events-beyond}
use Rattle.byte_edge.proofs.laws.line_events_within_budget.Goals as goal

pub returns : goal.returns
returns c = record {
  within = λ within. line_events-within _ _ _ (omega (arith, ap length (concat-raw_lines c.args.bytes.now)));
  past = λ past. line_events-beyond _ _ _ (omega (arith, ap length (concat-raw_lines c.args.bytes.now)));
}
