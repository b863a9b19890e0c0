-- The divisor is positive and fits, and what it leaves is the ratio.
use Rattle.std.proofs.Common.{arith}
use Rattle.std.specs.Int.{w128}
use Rattle.std.proofs.lemmas.Int.{ints}
use Rattle.exact_fraction.proofs.Wide.{divisor_passed, divisor_fits, divisor_divides, num_reduced}
use Rattle.exact_fraction.proofs.Wide.{den_reduced}
use Rattle.exact_fraction.proofs.divisor.wide_terms.Goals as goal

pub overflow_cast-divisor : goal.overflow_cast-divisor
overflow_cast-divisor c =
    let e = divisor_passed w128 c.args.n c.args.d _ _ _ c.ranges.n c.ranges.d c.unsigned_abs.ensures.value c.unsigned_abs-2.ensures.value c.wide_divisor-divisor.ensures in
    let b = divisor_fits w128 c.args.n c.args.d _ c.requires c.ranges.d e in
    omega (arith, ints, b)

pub nonzero_div-result : goal.nonzero_div-result
nonzero_div-result c =
    let e = divisor_passed w128 c.args.n c.args.d _ _ _ c.ranges.n c.ranges.d c.unsigned_abs.ensures.value c.unsigned_abs-2.ensures.value c.wide_divisor-divisor.ensures in
    divisor_divides w128 c.args.n c.args.d _ c.args.n c.requires c.ranges.d c.ranges.n e

pub nonzero_div-result-2 : goal.nonzero_div-result-2
nonzero_div-result-2 c =
    let e = divisor_passed w128 c.args.n c.args.d _ _ _ c.ranges.n c.ranges.d c.unsigned_abs.ensures.value c.unsigned_abs-2.ensures.value c.wide_divisor-divisor.ensures in
    divisor_divides w128 c.args.n c.args.d _ c.args.d c.requires c.ranges.d c.ranges.d e

pub returns-clause-num : goal.returns-clause-num
returns-clause-num c =
    let e = divisor_passed w128 c.args.n c.args.d _ _ _ c.ranges.n c.ranges.d c.unsigned_abs.ensures.value c.unsigned_abs-2.ensures.value c.wide_divisor-divisor.ensures in
    num_reduced w128 c.args.n c.args.d _ c.requires c.ranges.n c.ranges.d e

pub returns-clause-den : goal.returns-clause-den
returns-clause-den c =
    let e = divisor_passed w128 c.args.n c.args.d _ _ _ c.ranges.n c.ranges.d c.unsigned_abs.ensures.value c.unsigned_abs-2.ensures.value c.wide_divisor-divisor.ensures in
    den_reduced w128 c.args.n c.args.d _ c.requires c.ranges.d e
