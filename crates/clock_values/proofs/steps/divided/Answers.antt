use Rattle.std.proofs.Common.{◌≡◌, ◌∙◌, ap, pos, Ok}
use Rattle.exact_fraction.specs.Number.{whole}
use Rattle.exact_fraction.specs.Operations.{quotient_of}
use Rattle.exact_fraction.specs.Checked.{checked}
use Rattle.clock_values.proofs.Made.{step_divides, not_zero}
use Rattle.clock_values.proofs.steps.divided.Goals as goal

pub quotient-requires : goal.quotient-requires
quotient-requires c = record { divides = rw c.natural.ensures.value (not_zero c.args.divisor c.requires.positive) }

pub returns-in-Ok : goal.returns-in-Ok
returns-in-Ok c =
    let known : c.quotient.result ≡ Ok (quotient_of c.args.seconds.now (whole (pos c.args.divisor))) = c.quotient.ensures.value ∙ ap (λ x. checked (quotient_of c.args.seconds.now x)) c.natural.ensures.value ∙ step_divides c.args.seconds.now c.args.divisor c.requires.step c.requires.positive c.requires.small in
    record { value = cc }

pub returns-in-Err : goal.returns-in-Err
returns-in-Err c =
    let known : c.quotient.result ≡ Ok (quotient_of c.args.seconds.now (whole (pos c.args.divisor))) = c.quotient.ensures.value ∙ ap (λ x. checked (quotient_of c.args.seconds.now x)) c.natural.ensures.value ∙ step_divides c.args.seconds.now c.args.divisor c.requires.step c.requires.positive c.requires.small in
    absurd cc
