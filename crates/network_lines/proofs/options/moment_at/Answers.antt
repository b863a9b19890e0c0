use Rattle.std.proofs.Common.{arith, ap, ◌∙◌, w32, w64, FitsSigned}
use Rattle.std.proofs.lemmas.Int.{ints, to_z-of_z}
use Rattle.exact_fraction.specs.Moments.{moment_at}
use Rattle.num_text.specs.Clocks.{seconds_at}
use Rattle.network_lines.proofs.Starts.{moment_at-seconds}
use Rattle.network_lines.proofs.options.moment_at.Goals as goal

pub returns : goal.returns
returns c =
    let in_range : FitsSigned w64 c.seconds_to.result = omega (arith, ints, c.seconds_to.type_inv) in
    let kept = to_z-of_z w64 c.seconds_to.result in_range in
    let passed = ap (λ day. seconds_at day c.args.second) (to_z-of_z w32 c.args.day c.ranges.day) in
    record {
      value = c.make.ensures.value ∙ ap moment_at (kept ∙ c.seconds_to.ensures.value ∙ passed)
          ∙ moment_at-seconds c.args.day c.args.second c.requires.low c.requires.high
          c.requires.in_day;
    }
