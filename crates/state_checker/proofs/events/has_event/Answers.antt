use Rattle.std.proofs.Common.{◌<◌, ◌∙◌, length, subst, sym}
use Rattle.std.specs.Prelude.{All}
use Rattle.state_checker.proofs.AskedSteps.{all_exist}
use Rattle.state_checker.proofs.events.has_event.Goals as goal

pub derive_for-requires-clause-exist : goal.derive_for-requires-clause-exist
derive_for-requires-clause-exist c =
    subst (All (λ number. number < length c.args.rules.now.rules))
    (sym (c.as_slice.ensures.value ∙ c.in_ok-numbers.ensures.value))
    (all_exist c.args.rules.now c.args.question.now)
