use Rattle.std.proofs.Common.{◌≡◌, Ok, Err, ap, sym, ◌∙◌, arith}
use Rattle.exact_fraction.specs.Number.{whole}
use Rattle.exact_fraction.specs.Operations.{sum_of}
use Rattle.exact_fraction.specs.Checked.{checked}
use Rattle.curves_series.specs.Series.{hours_of_day}
use Rattle.curves_series.proofs.DayHours.{hours_added, passed}
use Rattle.curves_series.proofs.entry.hours_of_day.Goals as goal

pub returns-in-Ok : goal.returns-in-Ok
returns-in-Ok c =
    let made = c.add.ensures.value ∙ ap (λ q. checked (sum_of q c.args.hours)) (c.whole.ensures.value ∙ ap whole (passed c.args.day c.requires.day)) in
    let sum = hours_added c.args.day c.args.hours c.add.result c.requires.day c.requires.hours made in
    let same : Ok c.in-Ok.sum ≡ Ok (hours_of_day c.args.day c.args.hours) = sym c.in-Ok.is ∙ sum in
    record { value = grind arith }

pub returns-in-Err : goal.returns-in-Err
returns-in-Err c =
    let made = c.add.ensures.value ∙ ap (λ q. checked (sum_of q c.args.hours)) (c.whole.ensures.value ∙ ap whole (passed c.args.day c.requires.day)) in
    let sum = hours_added c.args.day c.args.hours c.add.result c.requires.day c.requires.hours made in
    let same : Err c.in-Err.field-0 ≡ Ok (hours_of_day c.args.day c.args.hours) = sym c.in-Err.is ∙ sum in
    absurd (grind arith)
