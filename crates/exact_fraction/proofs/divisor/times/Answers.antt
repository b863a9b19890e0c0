-- The product of two numbers of 63 bits fits 128 bits.
use Rattle.exact_fraction.proofs.Wide.{product_size, product_passed}
use Rattle.exact_fraction.proofs.divisor.times.Goals as goal

pub returns-clause-value : goal.returns-clause-value
returns-clause-value c = product_passed c.args.a c.args.b c.ranges.a c.ranges.b c.requires.left c.requires.right

pub returns-clause-size : goal.returns-clause-size
returns-clause-size c =
    rw (product_passed c.args.a c.args.b c.ranges.a c.ranges.b c.requires.left c.requires.right) (product_size c.args.a c.args.b c.requires.left c.requires.right)
