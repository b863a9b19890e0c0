-- Day numbers of the years 1 to 9999, and the seconds of their days.
use Rattle.std.proofs.Common.{◌≡◌, ℕ, ◌<◌, ◌≤◌, inl, inr, true, false, refl, sym, ap, arith, Some, ℤ, pos, neg_ℤ, ◌≤ℤ◌, unsigned_abs}
use Rattle.std.proofs.lemmas.Bool.Decides.{nat_tests}
use Rattle.std.proofs.lemmas.Bool.{cases_lt, false_from_ne_true}
use Rattle.std.proofs.lemmas.Int.{ints}
use Rattle.exact_fraction.specs.Moments.{first_second, last_second, moment_at}
use Rattle.jiff_core.specs.Calendar.{days_in_month, days_from_civil, day_count, IsDate, IsCivilDate}
use Rattle.jiff_core.proofs.SignedLemmas.{signed_arith}
use Rattle.jiff_core.proofs.CalendarLemmas.{days_from_civil-day_count, day_count_bounds, day_count-later_year, day_count-day_of_year}
use Rattle.jiff_core.proofs.MarchLemmas.{day_count-early}
use Rattle.num_text.specs.Dates.{is_day, day_number}
use Rattle.num_text.specs.Clocks.{seconds_at}

-- the calendar has the days that are tested for
pub IsCivilDate-is_day : (year month day : ℕ) → is_day year month day ≡ true → IsCivilDate (pos year) month day
IsCivilDate-is_day year month day real =
    let last : year ≤ 9999 = grind (arith, nat_tests) in
    let month_low : 1 ≤ month = grind (arith, nat_tests) in
    let month_high : month ≤ 12 = grind (arith, nat_tests) in
    let day_low : 1 ≤ day = grind (arith, nat_tests) in
    let day_high : day ≤ days_in_month (pos year) month = grind (arith, nat_tests) in
    ((omega (arith, ints), omega (arith, ints)), (month_low, month_high), (day_low, day_high))

-- and a day of the calendar from the year 1 on passes the test
pub is_day-IsCivilDate : (year month day : ℕ) → 1 ≤ year → IsCivilDate (pos year) month day → is_day year month day ≡ true
is_day-IsCivilDate year month day first civil =
    let last : year ≤ 9999 = omega (arith, ints, civil.0.1) in
    let month_low : 1 ≤ month = civil.1.0 in
    let month_high : month ≤ 12 = civil.1.1 in
    let day_low : 1 ≤ day = civil.2.0 in
    let day_high : day ≤ days_in_month (pos year) month = civil.2.1 in
    grind (arith, nat_tests)

-- the first day of the year 1
pub day_count-first : day_count (pos 1) 1 1 ≡ 3_652_791
day_count-first = day_count-early (pos 1) 10000 1 1 refl (omega arith) (omega arith) (omega arith)

-- no day of the years 1 to 9999 comes before 0001-01-01
pub day_count-from_first : (year month day : ℕ) → is_day year month day ≡ true → day_count (pos 1) 1 1 ≤ day_count (pos year) month day
day_count-from_first year month day real =
    let first : 1 ≤ year = grind (arith, nat_tests) in
    let day_low : 1 ≤ day = grind (arith, nat_tests) in
    let in_year : day_count (pos year) 1 1 ≤ day_count (pos year) month day = omega (arith, day_count-day_of_year (pos year) month day day_low) in
    elim (cases_lt 1 year) [
      | inl later ↦ omega (arith, day_count-later_year (pos 1) (pos year) (omega (arith, ints)) (omega (arith, ints)))
      | inr same ↦ let one : year ≡ 1 = omega arith in rw one (rw one at in_year)
    ]

-- their day numbers
pub record IsDayNumber (number : ℤ) : Type 0 where
  pub low : neg_ℤ (pos 719_162) ≤ℤ number
  pub high : number ≤ℤ pos 2_932_896

pub day_range : (year month day : ℕ) → is_day year month day ≡ true → IsDayNumber (days_from_civil (pos year) month day)
day_range year month day real =
    let bounds = day_count_bounds (pos year) month day (IsCivilDate-is_day year month day real) in
    let low = day_count-from_first year month day real in
    let count = days_from_civil-day_count (pos year) month day in
    record {
      low = omega (arith, signed_arith, day_count-first);
      high = omega (arith, signed_arith);
    }

-- a date that there is passes the test
pub is_day-given : (year month day : ℕ) (y m d : ℤ) → y ≡ pos year → m ≡ pos month → d ≡ pos day → 1 ≤ year → year < 10_000 → IsDate y m d → is_day year month day ≡ true
is_day-given year month day y m d same_year same_month same_day first last date =
    let month_low : 1 ≤ month = omega (arith, ints) in
    let month_high : month ≤ 12 = omega (arith, ints) in
    let day_low : 1 ≤ day = omega (arith, ints) in
    let same : unsigned_abs m ≡ month = ap unsigned_abs same_month in
    let within : d ≤ℤ pos (days_in_month y (unsigned_abs m)) = date.2.1 in
    let limit : d ≤ℤ pos (days_in_month (pos year) month) = rw (same_year, same) at within in
    let day_high : day ≤ days_in_month (pos year) month = omega (arith, ints) in
    grind (arith, nat_tests)

-- the calendar has a date that is tested for
is_day-date : (year month day : ℕ) (y m d : ℤ) → y ≡ pos year → m ≡ pos month → d ≡ pos day → is_day year month day ≡ true → IsDate y m d
is_day-date year month day y m d same_year same_month same_day real =
    let civil = IsCivilDate-is_day year month day real in
    let same : days_in_month y (unsigned_abs m) ≡ days_in_month (pos year) month = rw (same_year, same_month) in
    ((omega (arith, ints), omega (arith, ints)), (omega (arith, ints), omega (arith, ints)), (omega (arith, ints), omega (arith, ints)))

-- and one that there isn't does not
pub is_day-missing : (year month day : ℕ) (y m d : ℤ) → y ≡ pos year → m ≡ pos month → d ≡ pos day → (IsDate y m d → ⊥) → is_day year month day ≡ false
is_day-missing year month day y m d same_year same_month same_day none =
    false_from_ne_true (is_day year month day) (λ real. none (is_day-date year month day y m d same_year same_month same_day real))

-- what is known of the day number of a date with these parts
pub record IsNumbered (year month day : ℕ) (number : ℤ) : Type 0 where
  pub given : day_number year month day ≡ Some number
  pub low : neg_ℤ (pos 719_162) ≤ℤ number

pub numbered : (year month day : ℕ) (date_year : ℤ) (date_month date_day : ℕ) (number : ℤ) → is_day year month day ≡ true → date_year ≡ pos year → pos date_month ≡ pos month → pos date_day ≡ pos day → number ≡ days_from_civil date_year date_month date_day → IsNumbered year month day number
numbered year month day date_year date_month date_day number real same_year same_month same_day is =
    let month_is : date_month ≡ month = omega (arith, ints) in
    let day_is : date_day ≡ day = omega (arith, ints) in
    let plain : number ≡ days_from_civil (pos year) month day = rw (same_year, month_is, day_is) at is in
    let range = day_range year month day real in
    record {
      given = rw real (ap Some (sym plain));
      low = rw plain range.low;
    }

-- a second of the years 1 to 9999 is a moment
moment_at-within : (second : ℤ) → first_second ≤ℤ second → second ≤ℤ last_second → moment_at second ≡ Some second
unfolding moment_at
moment_at-within second early late = grind (arith, ints)

-- and a second of a day of theirs is
pub moment_at-seconds : (day : ℤ) (second : ℕ) → neg_ℤ (pos 719_162) ≤ℤ day → day ≤ℤ pos 2_932_896 → second < 86_400 → moment_at (seconds_at day second) ≡ Some (seconds_at day second)
moment_at-seconds day second low high in_day =
    let early : first_second ≤ℤ seconds_at day second = omega (arith, ints) in
    let late : seconds_at day second ≤ℤ last_second = omega (arith, ints) in
    moment_at-within (seconds_at day second) early late
