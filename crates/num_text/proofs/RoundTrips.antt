-- What is written is read as what it was.
use Rattle.std.proofs.Common.{◌≡◌, ℕ, ◌+◌, ◌*◌, ◌/◌, ◌%◌, ◌<◌, ◌≤◌, true, List, [], ◌∷◌, ◌++◌, Some, refl, ap, arith, append_assoc, append-nil, ℤ, pos, ◌≤ℤ◌, ◌-ℤ◌}
use Rattle.std.specs.Prelude.{nat_lt}
use Rattle.std.proofs.lemmas.Bool.Decides.{nat_tests}
use Rattle.std.proofs.lemmas.Int.{ints}
use Rattle.exact_fraction.specs.Moments.{days_through, first_second, last_second, IsMoment}
use Rattle.jiff_core.specs.Calendar.{days_from_civil}
use Rattle.jiff_core.proofs.CalendarLemmas.{days_in_month_bounds}
use Rattle.num_text.specs.Dates.{is_day, year_month_day}
use Rattle.num_text.specs.Clocks.{seconds_part, clock, moment_of, seconds_at}
use Rattle.num_text.specs.CivilDays.{year_at, month_at, day_at}
use Rattle.num_text.specs.Written.{places, written_moment, seconds_after_first}
use Rattle.num_text.proofs.Cuts.{is_apart, field-places, field_below-places}
use Rattle.num_text.proofs.Years.{IsDateOf, date_at}

-- the day
pub year_month_day-written : (year month day : ℕ) (number : ℤ) (rest : List ℕ) → is_day year month day ≡ true → year ≤ 9_999 → month < 100 → day < 100 → days_from_civil (pos year) month day ≡ number → is_apart rest ≡ true → year_month_day (places 4 year ++ 45 ∷ (places 2 month ++ 45 ∷ (places 2 day ++ rest))) ≡ Some (record { day = number; rest = rest })
unfolding year_month_day
year_month_day-written year month day number rest real a b c is apart =
    rw (field-places 4 4 4 year (45 ∷ (places 2 month ++ 45 ∷ (places 2 day ++ rest))) (omega arith) refl (omega arith) (omega arith))
    (rw (field-places 2 2 2 month (45 ∷ (places 2 day ++ rest)) (omega arith) refl (omega arith) (omega arith))
    (rw (field-places 2 2 2 day rest (omega arith) apart (omega arith) (omega arith))
    (rw real (rw is refl))))

-- the time
pub clock-written : (hour minute second : ℕ) → hour < 100 → minute < 60 → second < 60 → clock 2 (places 2 hour ++ 58 ∷ (places 2 minute ++ 58 ∷ (places 2 second ++ []))) ≡ Some (3600 * hour + 60 * minute + second)
unfolding clock seconds_part
clock-written hour minute second a b c =
    rw (field-places 1 2 2 hour (58 ∷ (places 2 minute ++ 58 ∷ (places 2 second ++ []))) (omega arith) refl (omega arith) (omega arith))
    (rw (field_below-places 1 2 60 2 minute (58 ∷ (places 2 second ++ [])) (omega arith) b refl (omega arith) (omega arith))
    (rw (field_below-places 1 2 60 2 second [] (omega arith) c refl (omega arith) (omega arith)) refl))

-- the parts of a written moment in a row
abbrev row : ℕ → ℕ → ℕ → ℕ → ℕ → ℕ → List ℕ
row year month day hour minute second =
    places 4 year ++ 45 ∷ (places 2 month ++ 45 ∷ (places 2 day ++ 84 ∷ (places 2 hour ++ 58 ∷ (places 2 minute ++ 58 ∷ (places 2 second ++ [])))))

in_a_row : (a b c d e f : List ℕ) → (((((a ++ 45 ∷ []) ++ b) ++ 45 ∷ []) ++ c) ++ 84 ∷ []) ++ ((((d ++ 58 ∷ []) ++ e) ++ 58 ∷ []) ++ f) ≡ a ++ 45 ∷ (b ++ 45 ∷ (c ++ 84 ∷ (d ++ 58 ∷ (e ++ 58 ∷ (f ++ [])))))
in_a_row a b c d e f = simp (append_assoc, append-nil)

-- the clock's parts make up the second of the day
clock_parts : (t : ℕ) → 3600 * (t / 3600) + 60 * (t / 60 % 60) + t % 60 ≡ t
clock_parts t = omega arith

-- what is known of the days and the seconds of a moment
pub record IsSplit (second : ℤ) (days t : ℕ) : Type 0 where
  pub early : days < days_through 9_999
  pub in_day : t < 86_400
  pub back : seconds_at (pos days -ℤ pos 719_162) t ≡ second

split_of : (second : ℤ) (n : ℕ) → second -ℤ first_second ≡ pos n → second ≤ℤ last_second → IsSplit second (n / 86_400) (n % 86_400)
split_of second n is late = record { early = omega (arith, ints); in_day = omega arith; back = omega (arith, ints) }

after_first : (second : ℤ) → first_second ≤ℤ second → second -ℤ first_second ≡ pos (seconds_after_first second)
after_first second early = omega (arith, ints)

row-read : (second : ℤ) (days t year month day : ℕ) → IsSplit second days t → IsDateOf days year month day → moment_of (row year month day (t / 3600) (t / 60 % 60) (t % 60)) ≡ Some second
unfolding moment_of
row-read second days t year month day split date =
    let real = date.real in
    let in_day = split.in_day in
    let most : year ≤ 9_999 = grind (arith, nat_tests) in
    let months : month < 100 = grind (arith, nat_tests) in
    let last = days_in_month_bounds (pos year) month in
    let days_most : day < 100 = grind (arith, nat_tests) in
    let number = year_month_day-written year month day (pos days -ℤ pos 719_162) (84 ∷ (places 2 (t / 3600) ++ 58 ∷ (places 2 (t / 60 % 60) ++ 58 ∷ (places 2 (t % 60) ++ [])))) real most months days_most date.number refl in
    let time = clock-written (t / 3600) (t / 60 % 60) (t % 60) (omega arith) (omega arith) (omega arith) in
    let below : nat_lt t 86_400 ≡ true = grind (arith, nat_tests) in
    rw number (rw time (rw (clock_parts t) (rw below (ap Some split.back))))

pub moment_of-written : (second : ℤ) → IsMoment second → moment_of (written_moment second) ≡ Some second
unfolding written_moment
moment_of-written second known =
    let n : ℕ = seconds_after_first second in
    let split = split_of second n (after_first second known.early) known.late in
    let days : ℕ = n / 86_400 in
    let t : ℕ = n % 86_400 in
    let date = date_at days split.early in
    rw (in_a_row (places 4 (year_at days)) (places 2 (month_at days)) (places 2 (day_at days)) (places 2 (t / 3600)) (places 2 (t / 60 % 60)) (places 2 (t % 60)))
    (row-read second days t (year_at days) (month_at days) (day_at days) split date)
