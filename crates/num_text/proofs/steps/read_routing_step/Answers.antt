use Rattle.std.proofs.Common.{◌≡◌, sym, ap, ◌∙◌}
use Rattle.std.specs.Prelude.{option_and_then}
use Rattle.num_text.specs.Steps.{IsReadStep, positive, routing_step_of}
use Rattle.num_text.proofs.Within.{if_some, routing_step-bounds}
use Rattle.num_text.proofs.steps.read_routing_step.Goals as goal

pub returns-clause-bounds : goal.returns-clause-bounds
unfolding routing_step_of
returns-clause-bounds c =
    let read : routing_step_of c.args.text.now ≡ c.positive.result = ap (λ found. option_and_then (λ step. positive step) found) (sym c.seconds_of.ensures.value ∙ c.in_ok-step.was) ∙ sym c.positive.ensures.value in
    if_some IsReadStep c.positive.result (λ q is. routing_step-bounds c.args.text.now q (read ∙ is))
