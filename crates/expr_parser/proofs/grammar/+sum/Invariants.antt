use Rattle.std.proofs.Common.{◌≡◌, ◌+◌, ◌-◌, ◌*◌}
use Rattle.expr_parser.specs.Formulas.{sum, products, product, signed, chain, sum_operator, product_operator}
use Rattle.expr_parser.proofs.grammar.+sum.Given as goal

abbrev pub decreases-sum : goal.decreases-sum
decreases-sum l = 8 * l.nesting

abbrev pub decreases-products : goal.decreases-products
decreases-products l = 8 * l.nesting + 7

abbrev pub decreases-product : goal.decreases-product
decreases-product l = 8 * l.nesting + 6

abbrev pub decreases-signed : goal.decreases-signed
decreases-signed l = 8 * l.nesting + 5

abbrev pub decreases-power : goal.decreases-power
decreases-power l = 8 * l.nesting + 4

abbrev pub decreases-atom : goal.decreases-atom
decreases-atom l = 8 * l.nesting + 3

abbrev pub decreases-named : goal.decreases-named
decreases-named l = 8 * l.nesting + 2

abbrev pub decreases-group : goal.decreases-group
decreases-group l = 8 * l.nesting + 1

abbrev pub invariant-products-loop-turn : goal.invariant-products-loop-turn
invariant-products-loop-turn l =
    products l.source (sum l.source l.nesting) l.fn.tokens
    ≡ chain (product l.source (sum l.source l.nesting)) sum_operator (l._turn-end - l._turn) l.left l.tokens

abbrev pub invariant-product-loop-turn : goal.invariant-product-loop-turn
invariant-product-loop-turn l =
    product l.source (sum l.source l.nesting) l.fn.tokens
    ≡ chain (signed l.source (sum l.source l.nesting)) product_operator (l._turn-end - l._turn) l.left l.tokens
