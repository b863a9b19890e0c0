use Rattle.std.proofs.Common.{◌≡◌, ◌∙◌, ap, ◌-ℤ◌}
use Rattle.std.specs.Prelude.{unsigned_abs}
use Rattle.rule_types.specs.declared.key.ClockAttr.TheVariants.{Time, ClockTime}
use Rattle.rule_meaning.specs.Condition.{meets}
use Rattle.clock_values.specs.Seconds.{passes_throughout}
use Rattle.clock_values.specs.internal.Runs.{all_in_window}
use Rattle.clock_values.proofs.SecondsTell.{truth, time_all, clock_all, constant_all, one_value}
use Rattle.clock_values.proofs.seconds.all_hold.Goals as goal

pub returns-in-Time : goal.returns-in-Time
returns-in-Time c =
    let run : all_in_window c.window_of.result c.run_since.result.from c.run_since.result.to ≡ passes_throughout (truth c.args.condition.now c.args.step.now Time c.args.other.now c.args.start) c.args.from (unsigned_abs (c.args.to -ℤ c.args.from)) =
    rw (c.window_of.ensures.value, c.run_since.ensures.from, c.run_since.ensures.to) (time_all c.args.condition.now c.args.step.now c.args.other.now c.args.start c.args.from c.args.to c.requires.order) in
    record { value = rw c.in-Time.is (c.holds_throughout.ensures.value ∙ run) }

pub returns-in-ClockTime : goal.returns-in-ClockTime
returns-in-ClockTime c =
    let run : all_in_window c.window_of-in-ClockTime.result c.run_of_day.result.from c.run_of_day.result.to ≡ passes_throughout (truth c.args.condition.now c.args.step.now ClockTime c.args.other.now c.args.start) c.args.from (unsigned_abs (c.args.to -ℤ c.args.from)) =
    rw (c.window_of-in-ClockTime.ensures.value, c.run_of_day.ensures.from, c.run_of_day.ensures.to) (clock_all c.args.condition.now c.args.step.now c.args.other.now c.args.start c.args.from c.args.to c.requires.one_day c.requires.order) in
    record { value = rw c.in-ClockTime.is (c.holds_throughout-in-ClockTime.ensures.value ∙ run) }

pub returns-in-Date : goal.returns-in-Date
returns-in-Date c =
    let value = ap (λ x. meets c.args.condition.now c.args.step.now x c.args.other.now) c.clock_value.ensures.value in
    record { value = c.meets.ensures.value ∙ value ∙ constant_all c.args.condition.now c.args.step.now c.args.other.now c.args.start c.args.from c.args.to c.requires.one_day c.requires.order c.args.attribute (λ a b. one_value c.args.attribute c.args.start a b c.in-Date.is) }
