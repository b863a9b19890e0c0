use Rattle.std.proofs.Common.{◌≡◌, ◌∙◌, ap, pos, Some}
use Rattle.exact_fraction.specs.Checked.{made}
use Rattle.rule_meaning.specs.Clock.{hours_of}
use Rattle.clock_values.proofs.Made.{passed_wide, made_hours}
use Rattle.clock_values.proofs.clock.hours_of.Goals as goal

pub returns-in-Some : goal.returns-in-Some
returns-in-Some c =
    let known : c.make.result ≡ Some (hours_of c.args.seconds) = c.make.ensures.value ∙ ap (λ x. made x (pos 3600)) (passed_wide c.args.seconds c.requires.fits) ∙ made_hours c.args.seconds c.requires.fits in
    record { value = cc }

pub returns-in-None : goal.returns-in-None
returns-in-None c =
    let known : c.make.result ≡ Some (hours_of c.args.seconds) = c.make.ensures.value ∙ ap (λ x. made x (pos 3600)) (passed_wide c.args.seconds c.requires.fits) ∙ made_hours c.args.seconds c.requires.fits in
    absurd cc
