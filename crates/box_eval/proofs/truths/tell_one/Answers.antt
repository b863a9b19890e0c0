use Rattle.std.proofs.Common.{arith}
use Rattle.box_eval.proofs.Marks.{told_set}
use Rattle.box_eval.proofs.truths.tell_one.Goals as goal

pub returns-then-number-truths : goal.returns-then-number-truths
returns-then-number-truths c = record {
  told =
      told_set c.args.truths.now c.args.fact.now c.truth_of_fact.result
      c.truth_of_fact.ensures.value (omega (arith, c.if-number-truths.true));
}
