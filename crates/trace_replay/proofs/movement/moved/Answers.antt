use Rattle.std.proofs.Common.{◌≡◌, true, false, ◌∙◌, sym, ap}
use Rattle.exact_fraction.specs.Number.{zero}
use Rattle.exact_fraction.specs.Order.{less}
use Rattle.exact_fraction.proofs.PublicLaws.{tests-less}
use Rattle.trace_replay.proofs.Reaching.{far_target}
use Rattle.trace_replay.proofs.Zeros.{at_once}
use Rattle.trace_replay.proofs.movement.moved.Goals as goal

pub returns-then-is_zero : goal.returns-then-is_zero
returns-then-is_zero c =
    at_once c.args.rate.now c.args.gap.now c.args.setting.now c.args.target.now (sym c.is_zero.ensures.value ∙ c.if-is_zero.true)

pub returns-then-not-is_less-2 : goal.returns-then-not-is_less-2
returns-then-not-is_less-2 c =
    let rated : less zero c.args.rate.now ≡ true = sym (c.is_less.ensures.value ∙ ap (λ z. less z c.args.rate.now) c.zero.ensures.value) ∙ c.if-not-is_less.false in
    let far : less c.args.gap.now c.args.rate.now ≡ false = sym c.is_less-2.ensures.value ∙ c.if-not-is_less-2.true in
    far_target c.args.rate.now c.args.gap.now c.args.setting.now c.args.target.now rated far c.requires.on_its_way c.num-held.ensures.held

pub reach-requires-clause-takes_time : goal.reach-requires-clause-takes_time
reach-requires-clause-takes_time c =
    let rated : less zero c.args.rate.now ≡ true = sym (c.is_less.ensures.value ∙ ap (λ z. less z c.args.rate.now) c.zero.ensures.value) ∙ c.if-not-is_less.false in
    (tests-less zero c.args.rate.now).0 rated

pub reach-requires-clause-below : goal.reach-requires-clause-below
reach-requires-clause-below c =
    let near : less c.args.gap.now c.args.rate.now ≡ true = sym c.is_less-2.ensures.value ∙ c.if-not-is_less-2.false in
    (tests-less c.args.gap.now c.args.rate.now).0 near
