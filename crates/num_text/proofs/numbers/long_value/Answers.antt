use Rattle.std.proofs.Common.{◌++◌, [], length, arith, sym, ap, ◌∙◌, pos, ◌-ℤ◌, ◌+ℤ◌, SFits}
use Rattle.std.specs.Int.{w128}
use Rattle.std.proofs.lemmas.Int.{ints, to_z-of_z}
use Rattle.num_text.specs.Numbers.{spelled}
use Rattle.num_text.proofs.Bounds.{bounded-past, held-bounded}
use Rattle.num_text.proofs.numbers.long_value.Goals as goal

pub returns-in-Large : goal.returns-in-Large
unfolding spelled
returns-in-Large c =
    let front = c.with_digits-front.ensures.stands [] c.of_none.ensures.stands in
    let large = rw c.in-Large.is at (c.with_digits.ensures.stands c.args.whole.now front) in
    record { value = sym (bounded-past c.args.negative _ _ large) }

pub returns-in-Held : goal.returns-in-Held
unfolding spelled
returns-in-Held c =
    let front = c.with_digits-front.ensures.stands [] c.of_none.ensures.stands in
    let held = rw c.in-Held.is at (c.with_digits.ensures.stands c.args.whole.now front) in
    let fits : SFits w128 c.power_of.result = omega (arith, ints, c.power_of.type_inv) in
    let power = to_z-of_z w128 c.power_of.result fits ∙ c.power_of.ensures.value ∙ ap (λ e. e -ℤ pos (length c.args.behind.now) +ℤ pos c.in-Held.zeros) (to_z-of_z w128 c.args.exponent c.ranges.exponent) in
    record { value = c.bounded.ensures.value ∙ held-bounded c.args.negative (c.args.whole.now ++ c.args.behind.now) c.in-Held.number c.in-Held.zeros (length c.args.behind.now) c.args.exponent _ held power }
