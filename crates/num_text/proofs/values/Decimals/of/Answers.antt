use Rattle.std.proofs.Common.{arith, sym, ◌∙◌}
use Rattle.num_text.proofs.WrittenDecimals.{places-kept, places-shorter}
use Rattle.num_text.proofs.values.Decimals.of.Goals as goal

pub loop-left-preserved : goal.loop-left-preserved
loop-left-preserved c =
    let known = c.loop-left.invariant in
    let less = places-shorter c.loop-left.count c.loop-left.left c.loop-left-test.true known.0 known.1 in
    (less.some, less.below, omega arith, less.same ∙ known.3)

pub returns-clause-value : goal.returns-clause-value
returns-clause-value c =
    sym (places-kept c.loop-left.count c.loop-left.left c.loop-left-test.false) ∙ c.loop-left.invariant.3
