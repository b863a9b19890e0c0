use Rattle.std.proofs.Common.{◌∙◌, sym, ap}
use Rattle.exact_fraction.specs.Order.{less}
use Rattle.trace_replay.proofs.Zeros.{was_closed, is_closed, stays_open}
use Rattle.trace_replay.proofs.switches.is_switch.Goals as goal

pub returns-then-is_zero : goal.returns-then-is_zero
returns-then-is_zero c =
    c.is_less.ensures.value ∙ ap (λ z. less z c.args.now.now) c.zero.ensures.value
    ∙ was_closed c.args.was.now c.args.now.now (sym c.is_zero.ensures.value ∙ c.if-is_zero.true)

pub returns-then-is_zero-2 : goal.returns-then-is_zero-2
returns-then-is_zero-2 c =
    c.is_less-then-is_zero-2.ensures.value ∙ ap (λ z. less z c.args.was.now) c.zero-then-is_zero-2.ensures.value
    ∙ is_closed c.args.was.now c.args.now.now (sym c.is_zero.ensures.value ∙ c.if-is_zero.false) (sym c.is_zero-2.ensures.value ∙ c.if-is_zero-2.true)

pub returns : goal.returns
returns c =
    stays_open c.args.was.now c.args.now.now (sym c.is_zero.ensures.value ∙ c.if-is_zero.false) (sym c.is_zero-2.ensures.value ∙ c.if-is_zero-2.false)
