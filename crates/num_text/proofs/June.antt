-- The day number of the worked examples.
use Rattle.std.proofs.Common.{◌≡◌, pos, refl, arith}
use Rattle.jiff_core.specs.Calendar.{days_from_civil}
use Rattle.jiff_core.proofs.SignedLemmas.{signed_arith}
use Rattle.jiff_core.proofs.CalendarLemmas.{days_from_civil-day_count}
use Rattle.jiff_core.proofs.MarchLemmas.{day_count-late}

pub days_from_civil-june : days_from_civil (pos 2001) 6 15 ≡ pos 11_488
days_from_civil-june =
    omega (arith, signed_arith, days_from_civil-day_count (pos 2001) 6 15, day_count-late (pos 2001) 12001 6 15 refl (omega arith) (omega arith) (omega arith))
