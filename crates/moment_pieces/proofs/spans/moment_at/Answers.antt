use Rattle.std.proofs.Common.{◌≡◌, ◌∙◌, pos, ◌+ℤ◌, Some}
use Rattle.moment_pieces.proofs.Runs.{within_run, moment_passed}
use Rattle.moment_pieces.proofs.spans.moment_at.Goals as goal

pub returns-in-Some : goal.returns-in-Some
returns-in-Some c =
    let known : c.make.result ≡ Some (c.args.span.now.midnight +ℤ pos c.args.number) = c.make.ensures.value ∙ moment_passed c.second_at.result (c.args.span.now.midnight +ℤ pos c.args.number) c.second_at.ensures.value (within_run c.args.span.now c.args.number c.requires.span c.requires.first c.requires.last) in
    record { value = cc }

pub returns-in-None : goal.returns-in-None
returns-in-None c =
    let known : c.make.result ≡ Some (c.args.span.now.midnight +ℤ pos c.args.number) = c.make.ensures.value ∙ moment_passed c.second_at.result (c.args.span.now.midnight +ℤ pos c.args.number) c.second_at.ensures.value (within_run c.args.span.now c.args.number c.requires.span c.requires.first c.requires.last) in
    absurd cc
