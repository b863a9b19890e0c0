-- The clock tells the date of the calendar.
use Rattle.std.proofs.Common.{ℕ, ◌≤◌, ap, pos}
use Rattle.jiff_core.specs.Calendar.{day_of_year, days_from_civil, IsCivilDate}
use Rattle.num_text.proofs.PublicLaws.{calendar-date}
use Rattle.rule_meaning.specs.Clock.{year_of, month_of, year_day_of, IsClockDate}

pub dates_known : (y m d : ℕ) → 1 ≤ y → IsCivilDate (pos y) m d → IsClockDate (days_from_civil (pos y) m d) y m (day_of_year (pos y) m d)
unfolding year_of month_of year_day_of
dates_known y m d some civil =
    let told = calendar-date y m d some civil in
    record { year = told.year; month = told.month; place = ap pos told.place }
