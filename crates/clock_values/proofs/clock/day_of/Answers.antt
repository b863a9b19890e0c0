use Rattle.std.proofs.Common.{◌≡◌, ◌<◌, ◌^◌, pos, w64, ap, ◌∙◌, sym, subst}
use Rattle.std.specs.Prelude.{unsigned_abs, FitsSigned}
use Rattle.std.specs.Int.{int_div_euclid}
use Rattle.std.proofs.lemmas.Int.{to_z-of_z}
use Rattle.rule_meaning.specs.Clock.{day_of}
use Rattle.clock_values.proofs.Made.{passed_narrow}
use Rattle.clock_values.proofs.ClockDays.{day_small, moment_fits}
use Rattle.clock_values.proofs.clock.day_of.Goals as goal

pub returns-clause-value : goal.returns-clause-value
unfolding day_of
returns-clause-value c =
    let range = c.seconds.ensures.range in
    let fits : FitsSigned w64 c.seconds.result = rw c.seconds.ensures.value (moment_fits c.args.at range) in
    let is : c.div_euclid.result ≡ day_of c.args.at = c.div_euclid.ensures ∙ ap (λ x. int_div_euclid x (pos 86400)) (to_z-of_z w64 c.seconds.result fits ∙ c.seconds.ensures.value) in
    passed_narrow c.div_euclid.result (subst (λ x. unsigned_abs x < 2 ^ 31) (sym is) (day_small c.args.at range)) ∙ is
