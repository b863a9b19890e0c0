-- The year, month and day that hold a day counted from 0001-01-01.
use Rattle.std.proofs.Common.{◌≡◌, ℕ, zero, suc, ◌+◌, ◌-◌, ◌*◌, ◌/◌, ◌<◌, ◌≤◌, ◌-ℤ◌, ◌+ℤ◌, ◌∙◌, Bool, true, false, inl, inr, refl, sym, arith, ℤ, pos, cond}
use Rattle.std.specs.Prelude.{nat_lt}
use Rattle.std.proofs.lemmas.Bool.Decides.{nat_tests}
use Rattle.std.proofs.lemmas.Bool.{cases_lt}
use Rattle.std.proofs.lemmas.Int.{ints}
use Rattle.exact_fraction.specs.Moments.{days_through}
use Rattle.jiff_core.specs.Calendar.{days_of_months, days_in_month, day_count, day_of_year, days_from_civil, IsCivilDate}
use Rattle.jiff_core.specs.declared.civil.date.Date.{Date}
use Rattle.jiff_core.proofs.DateLemmas.{civil}
use Rattle.num_text.proofs.Days.{IsCivilDate-is_day, is_day-IsCivilDate, day_range}
use Rattle.jiff_core.proofs.SignedLemmas.{signed_arith}
use Rattle.jiff_core.proofs.MarchLemmas.{march_days-suc, days_in_year-leap_day, day_count-early}
use Rattle.jiff_core.proofs.CalendarLemmas.{days_of_months_mono, days_of_months-zero, days_of_months_more, days_of_months_all, days_from_civil-day_count, day_count-day_of_year, day_of_year_bound, day_count-year_is, day_count-lt_month, day_count-day}
use Rattle.num_text.specs.Dates.{is_day}
use Rattle.num_text.specs.CivilDays.{days_after_first, year_at, place_at, months_before, month_at, day_at, IsCivilDay}

-- the days before the year of average length, and those through the year after it
near_low : (days : ℕ) → days_through (400 * days / 146_097) ≤ days
near_low days = omega arith

near_high : (days : ℕ) → days < days_through (400 * days / 146_097 + 2)
near_high days = omega arith

-- the year holds the day
pub record IsYearOf (days year : ℕ) : Type 0 where
  pub first : 1 ≤ year
  pub low : days_through (year - 1) ≤ days
  pub high : days < days_through year

pub year_at-holds : (days : ℕ) → IsYearOf days (year_at days)
unfolding year_at
year_at-holds days =
    let low = near_low days in
    let high = near_high days in
    record { first = grind (arith, nat_tests); low = grind (arith, nat_tests); high = grind (arith, nat_tests) }

-- a year that holds the day is that year
year_between : (days y z : ℕ) → IsYearOf days y → IsYearOf days z → y < z → ⊥
year_between days y z p q less =
    let a = p.high in
    let b = q.low in
    let step : y ≤ z - 1 = omega arith in
    omega arith

-- ---- months
pub record IsMonthCount (year : ℤ) (place months count : ℕ) : Type 0 where
  pub most : count ≤ months
  pub low : days_of_months year count < place
  pub high : count < months → place ≤ days_of_months year (suc count)

one_month : (year : ℤ) (place months count : ℕ) (ends : Bool) → IsMonthCount year place months count → nat_lt (days_of_months year (suc months)) place ≡ ends → IsMonthCount year place (suc months) (count + cond ends 1 0)
one_month year place months count true known e =
    let below : days_of_months year (suc months) < place = grind (arith, nat_tests) in
    let later = days_of_months_mono year (suc count) (suc months) in
    let all : count ≡ months = elim (cases_lt count months) [
      | inl less ↦ absurd (omega (arith, known.high less, later (omega (arith, known.most))))
      | inr more ↦ omega (arith, known.most)
    ] in
    let same : count + 1 ≡ suc months = omega arith in
    rw same (record { most = omega arith; low = below; high = λ less. absurd (omega arith) })
one_month year place months count false known e =
    let above : place ≤ days_of_months year (suc months) = grind (arith, nat_tests) in
    let same : count + 0 ≡ count = omega arith in
    rw same (record {
      most = omega (arith, known.most);
      low = known.low;
      high = λ less. elim (cases_lt count months) [
        | inl fewer ↦ known.high fewer
        | inr all ↦ let here : count ≡ months = omega (arith, known.most) in rw here above
      ];
    })

months_before-counts : (year : ℤ) (place months : ℕ) → 0 < place → IsMonthCount year place months (months_before year place months)
unfolding months_before
months_before-counts year place zero some =
    record { most = omega arith; low = omega (arith, days_of_months-zero year); high = λ less. absurd (omega arith) }
months_before-counts year place (suc months) some =
    one_month year place months (months_before year place months) (nat_lt (days_of_months year (suc months)) place) (months_before-counts year place months some) refl

-- ---- the date
-- the first day of a year, and how long the year is
year_length : (n : ℕ) → days_through (suc n) ≡ days_through n + days_of_months (pos (suc n)) 12
year_length n =
    let year : ℤ = pos (suc n) in
    omega (arith, march_days-suc n, days_of_months_all year, days_in_year-leap_day year)

first_day : (n : ℕ) → day_count (pos (suc n)) 1 1 ≡ days_through n + 3_652_791
first_day n =
    let early = day_count-early (pos (suc n)) (n + 10_000) 1 1 (omega (arith, ints)) (omega arith) (omega arith) (omega arith) in
    omega arith

-- a day before the year 10000 has a date, which the calendar has
pub record IsDateOf (days year month day : ℕ) : Type 0 where
  pub real : is_day year month day ≡ true
  pub number : days_from_civil (pos year) month day ≡ pos days -ℤ pos 719_162

date_in_year : (days n place count : ℕ) → days < days_through 9_999 → IsYearOf days (suc n) → place ≡ days - days_through n + 1 → IsMonthCount (pos (suc n)) place 12 count → IsDateOf days (suc n) (count + 1) (place - days_of_months (pos (suc n)) count)
date_in_year days n place count early year is known =
    let length = year_length n in
    let low : days_through n ≤ days = omega (arith, year.low) in
    let high = year.high in
    let some = known.low in
    let within : count < 12 = elim (cases_lt count 12) [
      | inl less ↦ less
      | inr more ↦ let all : count ≡ 12 = omega (arith, known.most) in let below = rw all at some in absurd (omega arith)
    ] in
    let limit : place ≤ days_of_months (pos (suc n)) (suc count) = known.high within in
    let step = days_of_months_more (pos (suc n)) (suc count) (omega arith) in
    let suc_count : count + 1 ≡ suc count = omega arith in
    let back : suc count - 1 ≡ count = omega arith in
    let year_most : suc n ≤ 9_999 = omega arith in
    let stepped : days_of_months (pos (suc n)) (suc count) ≡ days_of_months (pos (suc n)) count + days_in_month (pos (suc n)) (suc count) = rw back at step in
    let day : ℕ = place - days_of_months (pos (suc n)) count in
    let day_low : 1 ≤ day = omega arith in
    let day_high : day ≤ days_in_month (pos (suc n)) (suc count) = omega arith in
    let count_is = day_count-day_of_year (pos (suc n)) (suc count) day day_low in
    let counted : day_count (pos (suc n)) (suc count) day + 1 ≡ day_count (pos (suc n)) 1 1 + (days_of_months (pos (suc n)) count + day) = rw back at count_is in
    let first = first_day n in
    let civil = days_from_civil-day_count (pos (suc n)) (suc count) day in
    rw suc_count (record {
      real = grind (arith, nat_tests);
      number = omega (arith, signed_arith);
    })

date_from_parts : (days y place count : ℕ) → days < days_through 9_999 → IsYearOf days y → place ≡ days - days_through (y - 1) + 1 → IsMonthCount (pos y) place 12 count → IsDateOf days y (count + 1) (place - days_of_months (pos y) (count + 1 - 1))
date_from_parts days zero place count early year is known = absurd (omega (arith, year.first))
date_from_parts days (suc n) place count early year is known =
    let back : count + 1 - 1 ≡ count = omega arith in
    let before : suc n - 1 ≡ n = omega arith in
    rw back (date_in_year days n place count early year (rw before at is) known)

pub date_at : (days : ℕ) → days < days_through 9_999 → IsDateOf days (year_at days) (month_at days) (day_at days)
unfolding month_at day_at place_at
date_at days early =
    let place : ℕ = days - days_through (year_at days - 1) + 1 in
    date_from_parts days (year_at days) place (months_before (pos (year_at days)) place 12) early (year_at-holds days) refl (months_before-counts (pos (year_at days)) place 12 (omega arith))

-- ---- one day has one date
same_months : (y : ℤ) (m₁ d₁ m₂ d₂ : ℕ) → IsCivilDate y m₁ d₁ → IsCivilDate y m₂ d₂ → day_count y m₁ d₁ ≡ day_count y m₂ d₂ → (m₁ ≡ m₂) × (d₁ ≡ d₂)
same_months y m₁ d₁ m₂ d₂ p q same =
    let below : m₁ < m₂ → ⊥ = λ less. let apart = day_count-lt_month y m₁ d₁ m₂ d₂ p q.2.0 less in omega arith in
    let above : m₂ < m₁ → ⊥ = λ less. let apart = day_count-lt_month y m₂ d₂ m₁ d₁ q p.2.0 less in omega arith in
    let months : m₁ ≡ m₂ = elim (cases_lt m₁ m₂) [
      | inl less ↦ absurd (below less)
      | inr more ↦ elim (cases_lt m₂ m₁) [
        | inl less ↦ absurd (above less)
        | inr least ↦ omega arith
      ]
    ] in
    let same_month : day_count y m₁ d₁ ≡ day_count y m₁ d₂ = rw (← months) at same in
    let days = day_count-day y m₁ d₁ d₂ p.2.0 q.2.0 in
    (months, omega arith)

-- what a date and a day have in common
pub record IsSameDate (year₁ year₂ : ℤ) (month₁ day₁ month₂ day₂ : ℕ) : Type 0 where
  pub year : year₁ ≡ year₂
  pub month : month₁ ≡ month₂
  pub day : day₁ ≡ day₂

pub same_date : (y₁ y₂ : ℤ) (m₁ d₁ m₂ d₂ : ℕ) → IsCivilDate y₁ m₁ d₁ → IsCivilDate y₂ m₂ d₂ → days_from_civil y₁ m₁ d₁ ≡ days_from_civil y₂ m₂ d₂ → IsSameDate y₁ y₂ m₁ d₁ m₂ d₂
same_date y₁ y₂ m₁ d₁ m₂ d₂ p q same_number =
    let one = days_from_civil-day_count y₁ m₁ d₁ in
    let two = days_from_civil-day_count y₂ m₂ d₂ in
    let one_same = rw same_number at one in
    let same : day_count y₁ m₁ d₁ ≡ day_count y₂ m₂ d₂ = omega arith in
    let start = day_count-day_of_year y₁ m₁ d₁ p.2.0 in
    let within = day_of_year_bound y₁ m₁ d₁ p in
    let some : 1 ≤ d₁ = p.2.0 in
    let years : y₂ ≡ y₁ = day_count-year_is y₁ y₂ m₂ d₂ p.0 q (omega arith) (omega arith) in
    let q₁ : IsCivilDate y₁ m₂ d₂ = rw years at q in
    let rest = same_months y₁ m₁ d₁ m₂ d₂ p q₁ (rw years at same) in
    record { year = sym years; month = rest.0; day = rest.1 }

-- the date of a day
pub date_is : (days : ℕ) (date : Date) → days < days_through 9_999 → days_from_civil date.year date.month date.day +ℤ pos 4_371_587 ≡ pos (days + 3_652_425) → IsSameDate date.year (pos (year_at days)) date.month date.day (month_at days) (day_at days)
date_is days date early number =
    let known = date_at days early in
    let written = IsCivilDate-is_day (year_at days) (month_at days) (day_at days) known.real in
    let here = known.number in
    let same : days_from_civil date.year date.month date.day ≡ pos days -ℤ pos 719_162 = omega (arith, ints) in
    same_date date.year (pos (year_at days)) date.month date.day (month_at days) (day_at days) (civil date) written (same ∙ sym here)

pub year_most : (days : ℕ) → days < days_through 9_999 → year_at days ≤ 9_999
year_most days early =
    let known = (date_at days early).real in
    grind (arith, nat_tests)

-- ---- the days of the calendar's dates
-- how many days after 0001-01-01 a date comes
record IsCounted (day : ℤ) (days : ℕ) : Type 0 where
  early : days < days_through 9_999
  number : day ≡ pos days -ℤ pos 719_162

counted : (y m d : ℕ) → 1 ≤ y → IsCivilDate (pos y) m d → IsCounted (days_from_civil (pos y) m d) (days_after_first (days_from_civil (pos y) m d))
counted y m d some known =
    let range = day_range y m d (is_day-IsCivilDate y m d some known) in
    record { early = omega (arith, ints, range.low, range.high); number = omega (arith, ints, range.low) }

pub date_number : (y m d : ℕ) → 1 ≤ y → IsCivilDate (pos y) m d → days_from_civil (pos y) m d ≡ pos (days_after_first (days_from_civil (pos y) m d)) -ℤ pos 719_162
date_number y m d some known = (counted y m d some known).number

place_in_year : (n m d days : ℕ) → IsCivilDate (pos (suc n)) m d → days_from_civil (pos (suc n)) m d ≡ pos days -ℤ pos 719_162 → days - days_through n + 1 ≡ day_of_year (pos (suc n)) m d
place_in_year n m d days known e =
    let first = first_day n in
    let some : 1 ≤ d = known.2.0 in
    let place = day_count-day_of_year (pos (suc n)) m d some in
    let number = days_from_civil-day_count (pos (suc n)) m d in
    omega (arith, signed_arith)

day_of_date : (n m d days : ℕ) → IsCivilDate (pos (suc n)) m d → IsCounted (days_from_civil (pos (suc n)) m d) days → IsCivilDay days (suc n) m d (day_of_year (pos (suc n)) m d)
unfolding place_at
day_of_date n m d days known count =
    let told = date_at days count.early in
    let written = IsCivilDate-is_day (year_at days) (month_at days) (day_at days) told.real in
    let same = same_date (pos (suc n)) (pos (year_at days)) m d (month_at days) (day_at days) known written (count.number ∙ sym told.number) in
    let year : year_at days ≡ suc n = omega (arith, ints, same.year) in
    let before : suc n - 1 ≡ n = omega arith in
    record { year = year; month = sym same.month; day = sym same.day; place = rw (year, before) (place_in_year n m d days known count.number) }

-- the date of a day is the one that the calendar counts by it
pub date_told : (y m d : ℕ) → 1 ≤ y → IsCivilDate (pos y) m d → IsCivilDay (days_after_first (days_from_civil (pos y) m d)) y m d (day_of_year (pos y) m d)
date_told zero m d some known = absurd (omega arith)
date_told (suc n) m d some known = day_of_date n m d (days_after_first (days_from_civil (pos (suc n)) m d)) known (counted (suc n) m d some known)

-- ---- what the parts of a day lie within
-- a day stands in its year from 1 to 366
pub place_within : (days year : ℕ) → IsYearOf days year → (1 ≤ days - days_through (year - 1) + 1) × (days - days_through (year - 1) + 1 ≤ 366)
place_within days zero known = absurd (omega (arith, known.first))
place_within days (suc n) known =
    let back : suc n - 1 ≡ n = omega arith in
    let low = known.low in
    let high = known.high in
    rw back (omega arith, omega (arith, rw back at low, high))

pub place_bounds : (days : ℕ) → (1 ≤ place_at days) × (place_at days ≤ 366)
unfolding place_at
place_bounds days = place_within days (year_at days) (year_at-holds days)

-- a month is from 1 to 12: the twelfth ends with the year
few_months : (days n place count : ℕ) → IsYearOf days (suc n) → place ≡ days - days_through n + 1 → IsMonthCount (pos (suc n)) place 12 count → count < 12
few_months days n place count year is known =
    let length = year_length n in
    let high = year.high in
    let some = known.low in
    elim (cases_lt count 12) [
      | inl less ↦ less
      | inr more ↦ let all : count ≡ 12 = omega (arith, known.most) in let below = rw all at some in absurd (omega arith)
    ]

month_within : (days year place count : ℕ) → IsYearOf days year → place ≡ days - days_through (year - 1) + 1 → IsMonthCount (pos year) place 12 count → count < 12
month_within days zero place count known is months = absurd (omega (arith, known.first))
month_within days (suc n) place count known is months =
    let back : suc n - 1 ≡ n = omega arith in
    few_months days n place count known (rw back at is) months

pub month_bounds : (days : ℕ) → (1 ≤ month_at days) × (month_at days ≤ 12)
unfolding month_at place_at
month_bounds days =
    let place : ℕ = days - days_through (year_at days - 1) + 1 in
    let few = month_within days (year_at days) place (months_before (pos (year_at days)) place 12) (year_at-holds days) refl (months_before-counts (pos (year_at days)) place 12 (omega arith)) in
    (omega arith, omega arith)
