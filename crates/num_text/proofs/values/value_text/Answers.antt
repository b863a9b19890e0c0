use Rattle.std.proofs.Common.{◌≡◌, ◌≤ℤ◌, arith, SFits, w64, pos, ◌∙◌}
use Rattle.std.proofs.lemmas.Int.{ints}
use Rattle.exact_fraction.specs.Number.{den}
use Rattle.num_text.proofs.WrittenDecimals.{held-small, size_passed, written_whole}
use Rattle.num_text.proofs.values.value_text.Goals as goal

pub push_size-requires-clause-size_fits : goal.push_size-requires-clause-size_fits
push_size-requires-clause-size_fits c =
    let small = held-small c.args.q c.num-numerator.ensures.held in
    let fits : SFits w64 c.num-numerator.result = omega (arith, ints, c.num-numerator.type_inv) in
    let size = size_passed c.num-numerator.result c.args.q.num c.unsigned_abs.result fits c.unsigned_abs.ensures.value c.num-numerator.ensures.value in
    omega arith

pub push_size-requires-clause-positive : goal.push_size-requires-clause-positive
push_size-requires-clause-positive c =
    let small = held-small c.args.q c.den-denominator.ensures.held in
    let fits : SFits w64 c.den-denominator.result = omega (arith, ints, c.den-denominator.type_inv) in
    let size = size_passed c.den-denominator.result (pos (den c.args.q)) c.unsigned_abs-2.result fits c.unsigned_abs-2.ensures.value c.den-denominator.ensures.value in
    omega arith

pub returns-then-numerator-lt10 : goal.returns-then-numerator-lt10
returns-then-numerator-lt10 c =
    let fits : SFits w64 c.num-numerator.result = omega (arith, ints, c.num-numerator.type_inv) in
    let size = size_passed c.num-numerator.result c.args.q.num c.digit_of.result fits c.digit_of.ensures.value c.num-numerator.ensures.value in
    let low : pos 0 ≤ℤ c.args.q.num = omega (arith, ints, c.if-numerator-ge0.true, c.num-numerator.ensures.value) in
    let one : pos (den c.args.q) ≡ pos 1 = omega (arith, ints, c.if-denominator-eq1.true, c.den-denominator.ensures.value) in
    record { value = c.of_digit.ensures.value ∙ written_whole c.args.q c.digit_of.result low one size }
