use Rattle.std.proofs.Common.{◌+◌, ◌*◌, ◌^◌, ◌≤◌, length, sym, ap₂, ◌∙◌, arith, lit≤}
use Rattle.std.proofs.Math.Nat.{pow-le-pow_right, mul-le-mul_right}
use Rattle.std.specs.Str.Parse.{digits_value}
use Rattle.num_text.proofs.UpTo.{pointed-none, pointed-over, pointed-some, up_to-none, up_to-some}
use Rattle.num_text.proofs.pointed.pointed_up_to.Goals as goal

pub returns-in_err-front : goal.returns-in_err-front
returns-in_err-front c =
    let over = up_to-none (digits_value 10 c.args.whole.now) c.args.most (sym c.number_up_to.ensures.value ∙ c.in_err-front.was) in
    let none = pointed-over c.args.most c.args.whole.now c.args.behind.now over in
    record { value = c.from_residual.ensures ∙ sym none }

pub returns-then-number-most : goal.returns-then-number-most
returns-then-number-most c =
    let front = up_to-some (digits_value 10 c.args.whole.now) c.args.most c.in_ok-front.front (sym c.number_up_to.ensures.value ∙ c.in_ok-front.was) in
    let over = rw (front.0, c.number_of.ensures.value) at c.if-number-most.true in
    record { value = sym (pointed-none c.args.most c.args.whole.now c.args.behind.now c.pow-scale.result c.pow-scale.ensures over) }

pub returns : goal.returns
returns c =
    let front = up_to-some (digits_value 10 c.args.whole.now) c.args.most c.in_ok-front.front (sym c.number_up_to.ensures.value ∙ c.in_ok-front.was) in
    let number = ap₂ (λ x y. x * c.pow-scale.result + y) front.0 c.number_of.ensures.value in
    record { value = c.ratio_of.ensures.value ∙ sym (pointed-some c.args.most c.args.whole.now c.args.behind.now c.pow-scale.result _ c.pow-scale.ensures number c.if-number-most.false) }

pub ratio_of-requires-clause-number_fits : goal.ratio_of-requires-clause-number_fits
ratio_of-requires-clause-number_fits c =
    let scale : 10 ^ length c.args.behind.now ≤ 10 ^ 9 = pow-le-pow_right (lit≤ tt) c.requires.nine in
    let most : c.args.most * c.pow-scale.result ≤ 1_000_000 * c.pow-scale.result = mul-le-mul_right c.pow-scale.result c.requires.million in
    omega (arith, c.pow-scale.ensures)
