-- A moment as it is read and written.
use Rattle.std.proofs.Common.{◌≡◌, refl, ap, sym, ◌∙◌, Some, pos, codes, arith}
use Rattle.std.proofs.lemmas.Int.{ints}
use Rattle.exact_fraction.specs.Moments.{IsMoment}
use Rattle.jiff_core.specs.Calendar.{days_of_months}
use Rattle.num_text.specs.CivilDays.{year_at, place_at, months_before, month_at, day_at}
use Rattle.num_text.specs.Clocks.{moment_of}
use Rattle.num_text.specs.Written.{places, written_moment}
use Rattle.num_text.proofs.PublicLaws.{round_trips-moment}

pub june_written : written_moment (pos 992563200) ≡ codes "2001-06-15T00:00:00"
unfolding places written_moment year_at place_at months_before month_at day_at days_of_months
june_written = refl

june_moment : IsMoment (pos 992563200)
june_moment = record { early = omega (arith, ints); late = omega (arith, ints) }

pub june : moment_of (codes "2001-06-15T00:00:00") ≡ Some (pos 992563200)
june = ap moment_of (sym june_written) ∙ round_trips-moment (pos 992563200) june_moment
