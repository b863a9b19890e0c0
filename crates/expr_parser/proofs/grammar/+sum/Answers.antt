use Rattle.std.proofs.Common.{rules, arith}
use Rattle.std.proofs.lemmas.Grind.{common_steps}
use Rattle.expr_parser.specs.Formulas.{sum, product, signed, chain, sum_operator, product_operator}
use Rattle.expr_parser.proofs.Turns.{one_more, deeper_by_one}
use Rattle.expr_parser.proofs.grammar.+sum.Goals as goal

pub product-loop-turn-preserved : goal.product-loop-turn-preserved
product-loop-turn-preserved t c =
    let e = one_more (λ n. chain (signed c.args.source.now (sum c.args.source.now c.args.nesting)) product_operator n c.loop-turn.left c.loop-turn.tokens)
    _ c.loop-turn._turn c.loop-turn-test.true c.loop-turn.invariant in
    first_of (search rules, grind (arith, common_steps))

pub products-loop-turn-preserved : goal.products-loop-turn-preserved
products-loop-turn-preserved t c =
    let e = one_more (λ n. chain (product c.args.source.now (sum c.args.source.now c.args.nesting)) sum_operator n c.loop-turn.left c.loop-turn.tokens)
    _ c.loop-turn._turn c.loop-turn-test.true c.loop-turn.invariant in
    first_of (search rules, grind (arith, common_steps))

pub sum-returns : goal.sum-returns
unfolding sum
sum-returns t c = rw (deeper_by_one (λ n. sum c.args.source.now n c.args.tokens.now) c.args.nesting (omega arith)) c.products.ensures
