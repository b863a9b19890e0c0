use Rattle.std.proofs.Common.{◌≡◌, ◌∙◌, ap, ◌-ℤ◌, not}
use Rattle.std.specs.Prelude.{unsigned_abs}
use Rattle.rule_types.specs.declared.key.ClockAttr.TheVariants.{Time, ClockTime}
use Rattle.rule_meaning.specs.Condition.{meets}
use Rattle.clock_values.specs.Seconds.{passes_nowhere}
use Rattle.clock_values.specs.internal.Runs.{none_in_window}
use Rattle.clock_values.proofs.SecondsTell.{truth, time_none, clock_none, constant_none, one_value}
use Rattle.clock_values.proofs.seconds.none_hold.Goals as goal

pub returns-in-Time : goal.returns-in-Time
returns-in-Time c =
    let run : none_in_window c.window_of.result c.run_since.result.from c.run_since.result.to ≡ passes_nowhere (truth c.args.condition.now c.args.step.now Time c.args.other.now c.args.start) c.args.from (unsigned_abs (c.args.to -ℤ c.args.from)) =
    rw (c.window_of.ensures.value, c.run_since.ensures.from, c.run_since.ensures.to) (time_none c.args.condition.now c.args.step.now c.args.other.now c.args.start c.args.from c.args.to c.requires.order) in
    record { value = rw c.in-Time.is (c.holds_nowhere.ensures.value ∙ run) }

pub returns-in-ClockTime : goal.returns-in-ClockTime
returns-in-ClockTime c =
    let run : none_in_window c.window_of-in-ClockTime.result c.run_of_day.result.from c.run_of_day.result.to ≡ passes_nowhere (truth c.args.condition.now c.args.step.now ClockTime c.args.other.now c.args.start) c.args.from (unsigned_abs (c.args.to -ℤ c.args.from)) =
    rw (c.window_of-in-ClockTime.ensures.value, c.run_of_day.ensures.from, c.run_of_day.ensures.to) (clock_none c.args.condition.now c.args.step.now c.args.other.now c.args.start c.args.from c.args.to c.requires.one_day c.requires.order) in
    record { value = rw c.in-ClockTime.is (c.holds_nowhere-in-ClockTime.ensures.value ∙ run) }

pub returns-in-Date : goal.returns-in-Date
returns-in-Date c =
    let value = ap (λ x. not (meets c.args.condition.now c.args.step.now x c.args.other.now)) c.clock_value.ensures.value in
    record { value = ap not c.meets.ensures.value ∙ value ∙ constant_none c.args.condition.now c.args.step.now c.args.other.now c.args.start c.args.from c.args.to c.requires.one_day c.requires.order c.args.attribute (λ a b. one_value c.args.attribute c.args.start a b c.in-Date.is) }
