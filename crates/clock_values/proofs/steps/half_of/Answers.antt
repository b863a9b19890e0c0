use Rattle.std.proofs.Common.{◌≡◌, ◌∙◌, ap, Ok, arith}
use Rattle.exact_fraction.specs.Operations.{quotient_of}
use Rattle.exact_fraction.specs.Checked.{checked}
use Rattle.rule_meaning.specs.Condition.{half_of}
use Rattle.clock_values.proofs.Made.{fits_checked, not_zero}
use Rattle.clock_values.proofs.steps.half_of.Goals as goal

pub quotient-requires : goal.quotient-requires
quotient-requires c = record { divides = rw c.natural.ensures.value (not_zero 2 (omega arith)) }

pub returns-in-Ok : goal.returns-in-Ok
unfolding half_of
returns-in-Ok c =
    let known : c.quotient.result ≡ Ok (half_of c.args.step.now) = c.quotient.ensures.value ∙ ap (λ x. checked (quotient_of c.args.step.now x)) c.natural.ensures.value ∙ fits_checked (half_of c.args.step.now) c.requires.fits in
    record { value = cc }

pub returns-in-Err : goal.returns-in-Err
unfolding half_of
returns-in-Err c =
    let known : c.quotient.result ≡ Ok (half_of c.args.step.now) = c.quotient.ensures.value ∙ ap (λ x. checked (quotient_of c.args.step.now x)) c.natural.ensures.value ∙ fits_checked (half_of c.args.step.now) c.requires.fits in
    absurd cc
