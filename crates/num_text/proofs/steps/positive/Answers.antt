use Rattle.std.proofs.Common.{◌≡◌, true, false, refl, ◌∙◌, pos, arith}
use Rattle.std.specs.Prelude.{int_lt}
use Rattle.std.proofs.lemmas.Int.{ints}
use Rattle.exact_fraction.specs.Number.{zero}
use Rattle.exact_fraction.specs.Order.{less}
use Rattle.num_text.proofs.Within.{less-nought}
use Rattle.num_text.proofs.steps.positive.Goals as goal

pub returns-then-num-le0 : goal.returns-then-num-le0
returns-then-num-le0 c =
    let out : int_lt (pos 0) c.num.result ≡ false = grind (arith, ints) in
    let none : less zero c.args.step ≡ false = less-nought c.args.step ∙ rw (← c.num.ensures.value) out in
    record { value = rw none refl }

pub returns : goal.returns
returns c =
    let above : int_lt (pos 0) c.num.result ≡ true = grind (arith, ints) in
    let some : less zero c.args.step ≡ true = less-nought c.args.step ∙ rw (← c.num.ensures.value) above in
    record { value = rw some refl }
