-- Seconds of days, and how the clock goes on from second to second.
use Rattle.std.proofs.Common.{◌≡◌, ℕ, ◌/◌, ◌%◌, ◌≤◌, ap, arith, ℤ}
use Rattle.std.proofs.Common.{pos, negsuc, ◌+ℤ◌, ◌-ℤ◌, ◌*ℤ◌, ◌≤ℤ◌, ◌<ℤ◌}
use Rattle.std.specs.Int.{int_rem_euclid}
use Rattle.std.proofs.lemmas.Int.{ints}
use Rattle.exact_fraction.specs.Number.{Rational, den, whole, zero}
use Rattle.exact_fraction.specs.Order.{◌≤ℚ◌, ◌<ℚ◌, ◌=ℚ◌}
use Rattle.exact_fraction.proofs.PublicLaws.{lowest_terms-value, order-same_is_at_most}
use Rattle.exact_fraction.proofs.PublicLaws.{order-transitive, order-below_at_most}
use Rattle.exact_fraction.proofs.PublicLaws.{order-at_most_below}
use Rattle.rule_types.specs.declared.key.ClockAttr.TheVariants.{Time, Date, Month, Day}
use Rattle.rule_types.specs.declared.key.ClockAttr.TheVariants.{ClockTime, DayOfYear}
use Rattle.rule_meaning.specs.Clock.{day_of, hours_of, month_of, week_day_of, year_day_of}
use Rattle.rule_meaning.specs.Clock.{clock_value}

-- ---- days and what is left of them
-- the seconds since midnight
abbrev rest_of : ℤ → ℤ
rest_of second = int_rem_euclid second (pos 86400)

pub whole_days : (second : ℤ) → second ≡ day_of second *ℤ pos 86400 +ℤ rest_of second
unfolding day_of
whole_days (pos n) = omega (arith, ints)
whole_days (negsuc n) = omega (arith, ints)

pub rest_bounds : (second : ℤ) → (pos 0 ≤ℤ rest_of second) × (rest_of second <ℤ pos 86400)
rest_bounds (pos n) = (omega (arith, ints), omega (arith, ints))
rest_bounds (negsuc n) = (omega (arith, ints), omega (arith, ints))

pub day_at : (base day : ℤ) (m : ℕ) → base ≡ day *ℤ pos 86400
    → day_of (base +ℤ pos m) ≡ day +ℤ pos (m / 86400)
day_at base day m e =
    let parts = whole_days (base +ℤ pos m) in
    let bounds = rest_bounds (base +ℤ pos m) in
    omega (arith, ints, parts, bounds.0, bounds.1, e)

pub time_at : (base day : ℤ) (m : ℕ) → base ≡ day *ℤ pos 86400
    → rest_of (base +ℤ pos m) ≡ pos (m % 86400)
time_at base day m e =
    let parts = whole_days (base +ℤ pos m) in
    let bounds = rest_bounds (base +ℤ pos m) in
    omega (arith, ints, parts, bounds.0, bounds.1, e)

-- ---- hours
-- so many seconds in hours, not reduced
abbrev seconds : ℤ → Rational
seconds n = record { num = n; below = 3599 }

hours_are : (n : ℤ) → hours_of n =ℚ seconds n
unfolding hours_of den
hours_are n = record { eq = lowest_terms-value n 3600 (omega arith) }

pub hours_rise : (a b : ℤ) → a ≤ℤ b → hours_of a ≤ℚ hours_of b
unfolding den
hours_rise a b h =
    let between : seconds a ≤ℚ seconds b = record { le = omega (arith, ints) } in
    order-transitive (hours_of a) (seconds b) (hours_of b)
    (order-transitive (hours_of a) (seconds a) (seconds b)
    (order-same_is_at_most (hours_of a) (seconds a) (hours_are a)).0 between)
    (order-same_is_at_most (hours_of b) (seconds b) (hours_are b)).1

pub hours_rise_below : (a b : ℤ) → a <ℤ b → hours_of a <ℚ hours_of b
unfolding den
hours_rise_below a b h =
    let between : seconds a <ℚ seconds b = record { lt = omega (arith, ints) } in
    order-below_at_most (hours_of a) (seconds b) (hours_of b)
    (order-at_most_below (hours_of a) (seconds a) (seconds b)
    (order-same_is_at_most (hours_of a) (seconds a) (hours_are a)).0 between)
    (order-same_is_at_most (hours_of b) (seconds b) (hours_are b)).1

-- ---- the clock
pub time_rises : (start a b : ℤ) → a <ℤ b → clock_value Time start a <ℚ clock_value Time start b
unfolding clock_value
time_rises start a b h = hours_rise_below (a -ℤ start) (b -ℤ start) (omega (arith, ints))

days_rise : (a b : ℤ) → a ≤ℤ b → day_of a ≤ℤ day_of b
days_rise a b h =
    let first = rest_bounds a in
    let last = rest_bounds b in
    omega (arith, ints, whole_days a, whole_days b, first.0, last.1)

pub date_rises : (start a b : ℤ) → a ≤ℤ b → clock_value Date start a ≤ℚ clock_value Date start b
unfolding clock_value whole den
date_rises start a b h = record { le = omega (arith, ints, days_rise a b h) }

rest_rises : (a b : ℤ) → day_of a ≡ day_of b → a <ℤ b → rest_of a <ℤ rest_of b
rest_rises a b e h = omega (arith, ints, whole_days a, whole_days b)

pub clock_time_rises : (start a b : ℤ) → day_of a ≡ day_of b → a <ℤ b
    → clock_value ClockTime start a <ℚ clock_value ClockTime start b
unfolding clock_value
clock_time_rises start a b e h = hours_rise_below (rest_of a) (rest_of b) (rest_rises a b e h)

pub clock_time_bounds : (start second : ℤ) → (zero ≤ℚ clock_value ClockTime start second)
    × (clock_value ClockTime start second <ℚ whole (pos 24))
unfolding clock_value whole den
clock_time_bounds start second =
    let rest = rest_of second in
    let bounds = rest_bounds second in
    let same = order-same_is_at_most (hours_of rest) (seconds rest) (hours_are rest) in
    let least : zero ≤ℚ seconds rest = record { le = omega (arith, ints, bounds.0) } in
    let most : seconds rest <ℚ whole (pos 24) = record { lt = omega (arith, ints, bounds.1) } in (
      order-transitive zero (seconds rest) (hours_of rest) least same.1,
      order-at_most_below (hours_of rest) (seconds rest) (whole (pos 24)) same.0 most,
    )

pub week_day_bounds : (day : ℤ) → (1 ≤ week_day_of day) × (week_day_of day ≤ 7)
unfolding week_day_of
week_day_bounds day = (omega arith, omega arith)

-- ---- one day
pub one_date : (start a b : ℤ) → day_of a ≡ day_of b
    → clock_value Date start a ≡ clock_value Date start b
unfolding clock_value
one_date start a b e = ap whole e

pub one_month : (start a b : ℤ) → day_of a ≡ day_of b
    → clock_value Month start a ≡ clock_value Month start b
unfolding clock_value
one_month start a b e = ap (λ day. whole (pos (month_of day))) e

pub one_week_day : (start a b : ℤ) → day_of a ≡ day_of b
    → clock_value Day start a ≡ clock_value Day start b
unfolding clock_value
one_week_day start a b e = ap (λ day. whole (pos (week_day_of day))) e

pub one_year_day : (start a b : ℤ) → day_of a ≡ day_of b
    → clock_value DayOfYear start a ≡ clock_value DayOfYear start b
unfolding clock_value
one_year_day start a b e = ap (λ day. whole (year_day_of day)) e
