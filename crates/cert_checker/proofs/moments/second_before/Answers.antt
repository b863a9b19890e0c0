use Rattle.std.proofs.Common.{◌≡◌, ◌<ℤ◌, ◌-ℤ◌, ◌∙◌, false, pos, Some, refl, sym, subst, arith}
use Rattle.std.specs.Prelude.{MatchOption, int_le}
use Rattle.std.proofs.lemmas.Int.{ints}
use Rattle.cert_checker.proofs.MadeMoments.{before_later, moment_passed}
use Rattle.cert_checker.proofs.moments.second_before.Goals as goal

pub returns : goal.returns
returns c =
    let later : c.args.first.now <ℤ c.args.moment.now = omega (arith, ints, c.if-seconds.false, c.seconds.ensures.value, c.seconds-2.ensures.value) in
    let known : c.make.result ≡ Some (c.args.moment.now -ℤ pos 1) =
    c.make.ensures.value
    ∙ moment_passed c.number_before.result (c.args.moment.now -ℤ pos 1)
    c.number_before.ensures.value
    (before_later c.args.first.now c.args.moment.now c.seconds-2.ensures.range
    c.seconds.ensures.range later) in
    record {
      before =
          subst
          (λ o.
          MatchOption o (int_le c.args.first.now (c.args.moment.now -ℤ pos 1) ≡ false)
          (λ last. last ≡ c.args.moment.now -ℤ pos 1)) (sym known) refl;
    }
