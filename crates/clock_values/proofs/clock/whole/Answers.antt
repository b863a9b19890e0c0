use Rattle.std.proofs.Common.{◌≡◌, ◌∙◌, ap, pos, Some}
use Rattle.exact_fraction.specs.Checked.{made}
use Rattle.exact_fraction.specs.Number.{whole}
use Rattle.clock_values.proofs.Made.{passed_wide, made_whole}
use Rattle.clock_values.proofs.clock.whole.Goals as goal

pub returns-in-Some : goal.returns-in-Some
returns-in-Some c =
    let known : c.make.result ≡ Some (whole c.args.seconds) = c.make.ensures.value ∙ ap (λ x. made x (pos 1)) (passed_wide c.args.seconds c.requires.fits) ∙ made_whole c.args.seconds c.requires.fits in
    record { value = cc }

pub returns-in-None : goal.returns-in-None
returns-in-None c =
    let known : c.make.result ≡ Some (whole c.args.seconds) = c.make.ensures.value ∙ ap (λ x. made x (pos 1)) (passed_wide c.args.seconds c.requires.fits) ∙ made_whole c.args.seconds c.requires.fits in
    absurd cc
