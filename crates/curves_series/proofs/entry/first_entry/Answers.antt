use Rattle.std.proofs.Common.{[], sym, ◌∙◌}
use Rattle.curves_series.proofs.DayHours.{own_day}
use Rattle.curves_series.proofs.EntrySteps.{three_up, dated_cut, plain_cut}
use Rattle.curves_series.proofs.entry.first_entry.Goals as goal

pub returns-in-Some-read_date-clause-value : goal.returns-in-Some-read_date-clause-value
returns-in-Some-read_date-clause-value c =
    let day = c.in-Some-read_date.day in
    let own = own_day day (c.in-Some-read_date.ensures.low, c.in-Some-read_date.ensures.high) in
    dated_cut c.args.axis day _ _ _ _ _ _ c.dated_entry.result
    (three_up c.args.found.now _ _ (record { ref_ptr = (0, 0); now = [] }) c.in-len3-up.len_at_least)
    (sym c.in-Some-read_date.is ∙ c.read_date-in-len3-up.ensures.value)
    own c.dated_entry.ensures.value

pub returns-in-None-read_date-clause-value : goal.returns-in-None-read_date-clause-value
returns-in-None-read_date-clause-value c =
    plain_cut c.args.axis _ _ _ _ _ c.plain_entry-in-None-read_date.result
    (three_up c.args.found.now _ _ (record { ref_ptr = (0, 0); now = [] }) c.in-len3-up.len_at_least)
    (sym c.in-None-read_date.is ∙ c.read_date-in-len3-up.ensures.value)
    c.plain_entry-in-None-read_date.ensures.value
