use Rattle.std.proofs.Common.{◌≡◌, ◌≤◌, ℕ, arith, ap, ◌∙◌, w16, to_z, of_z, ℤ, pos}
use Rattle.std.specs.Prelude.{unsigned_abs, FitsSigned}
use Rattle.std.proofs.lemmas.Int.{ints, to_z-of_z}
use Rattle.num_text.specs.CivilDays.{year_at}
use Rattle.num_text.proofs.Years.{date_is, year_most}
use Rattle.num_text.proofs.civil_days.civil_day.Goals as goal

passed : (year : ℤ) (y : ℕ) → year ≡ pos y → y ≤ 9_999 → to_z w16 (of_z w16 year) ≡ pos y
passed year y e most =
    let in_range : FitsSigned w16 year = omega (arith, ints) in
    to_z-of_z w16 year in_range ∙ e

pub overflow_cast-year : goal.overflow_cast-year
overflow_cast-year c =
    let year = passed c.from_days_since_min-date.result.year (year_at c.args.days) (date_is c.args.days c.from_days_since_min-date.result c.requires.early c.from_days_since_min-date.ensures).year (year_most c.args.days c.requires.early) in
    let most = year_most c.args.days c.requires.early in
    rw year (tt, omega arith)

pub returns-clause-year : goal.returns-clause-year
returns-clause-year c =
    ap unsigned_abs (passed c.from_days_since_min-date.result.year (year_at c.args.days) (date_is c.args.days c.from_days_since_min-date.result c.requires.early c.from_days_since_min-date.ensures).year (year_most c.args.days c.requires.early))

pub returns-clause-month : goal.returns-clause-month
returns-clause-month c = (date_is c.args.days c.from_days_since_min-date.result c.requires.early c.from_days_since_min-date.ensures).month

pub returns-clause-day : goal.returns-clause-day
returns-clause-day c = (date_is c.args.days c.from_days_since_min-date.result c.requires.early c.from_days_since_min-date.ensures).day

pub place_in_year-requires-clause-year : goal.place_in_year-requires-clause-year
place_in_year-requires-clause-year c =
    ap unsigned_abs (passed c.from_days_since_min-date.result.year (year_at c.args.days) (date_is c.args.days c.from_days_since_min-date.result c.requires.early c.from_days_since_min-date.ensures).year (year_most c.args.days c.requires.early))
