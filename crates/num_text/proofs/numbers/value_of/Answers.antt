use Rattle.std.proofs.Common.{◌++◌, length, arith, ap, ◌∙◌, pos, ◌-ℤ◌, ◌+ℤ◌, SFits}
use Rattle.std.specs.Int.{w128}
use Rattle.std.proofs.lemmas.Int.{ints, to_z-of_z}
use Rattle.num_text.specs.Numbers.{spelled}
use Rattle.num_text.proofs.Bounds.{held-bounded}
use Rattle.num_text.proofs.numbers.value_of.Goals as goal

pub returns-in-Some : goal.returns-in-Some
unfolding spelled
returns-in-Some c =
    let fits : SFits w128 c.power_of-power.result = omega (arith, ints, c.power_of-power.type_inv) in
    let power = to_z-of_z w128 c.power_of-power.result fits ∙ c.power_of-power.ensures.value ∙ ap (λ e. e -ℤ pos (length c.args.behind.now) +ℤ pos c.in-Some.narrow.zeros) (to_z-of_z w128 c.args.exponent c.ranges.exponent) in
    record { value = c.bounded.ensures.value ∙ held-bounded c.args.negative (c.args.whole.now ++ c.args.behind.now) c.in-Some.narrow.number c.in-Some.narrow.zeros (length c.args.behind.now) c.args.exponent _ c.in-Some.ensures.held power }
