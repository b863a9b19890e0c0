-- Between which numbers the clock lies.
use Rattle.std.proofs.Common.{◌≡◌, ℕ, ◌≤◌, ℤ, pos, ◌-ℤ◌, ◌≤ℤ◌, refl, ap, subst, arith}
use Rattle.std.proofs.Common.{Bool, true, false}
use Rattle.std.specs.Prelude.{int_lt}
use Rattle.std.proofs.lemmas.Int.{ints}
use Rattle.exact_fraction.specs.Number.{Rational, den, one, whole}
use Rattle.exact_fraction.specs.Order.{◌≤ℚ◌}
use Rattle.exact_fraction.proofs.PublicLaws.{order-reflexive, order-below_is_at_most}
use Rattle.num_text.proofs.PublicLaws.{calendar-place, calendar-month}
use Rattle.num_text.specs.CivilDays.{days_after_first, month_at, place_at}
use Rattle.rule_types.specs.declared.key.ClockAttr.{ClockAttr}
use Rattle.rule_types.specs.declared.key.ClockAttr.TheVariants.{Time, Date, Month, Day}
use Rattle.rule_types.specs.declared.key.ClockAttr.TheVariants.{ClockTime, DayOfYear}
use Rattle.rule_meaning.specs.Clock.{day_of, month_of, week_day_of, year_day_of, clock_value}
use Rattle.rule_meaning.proofs.PublicLaws.{clock_bounds-week_day, clock_order-hours}
use Rattle.rule_meaning.proofs.PublicLaws.{clock_order-date, clock_order-clock_time}
use Rattle.rule_meaning.proofs.PublicLaws.{one_day-month, one_day-week_day, one_day-year_day}

-- ---- bounds
wholes_between : (n most : ℕ) → 1 ≤ n → n ≤ most → (one ≤ℚ whole (pos n)) × (whole (pos n) ≤ℚ whole (pos most))
unfolding whole den
wholes_between n most low high = (record { le = omega (arith, ints, low) }, record { le = omega (arith, ints, high) })

pub month_between : (start second : ℤ) → (one ≤ℚ clock_value Month start second)
    × (clock_value Month start second ≤ℚ whole (pos 12))
unfolding clock_value month_of
month_between start second =
    let days = days_after_first (day_of second) in
    let bounds = calendar-month days in
    wholes_between (month_at days) 12 bounds.0 bounds.1

pub week_day_between : (start second : ℤ) → (one ≤ℚ clock_value Day start second)
    × (clock_value Day start second ≤ℚ whole (pos 7))
unfolding clock_value
week_day_between start second =
    let bounds = clock_bounds-week_day (day_of second) in
    wholes_between (week_day_of (day_of second)) 7 bounds.0 bounds.1

pub year_day_between : (start second : ℤ) → (one ≤ℚ clock_value DayOfYear start second)
    × (clock_value DayOfYear start second ≤ℚ whole (pos 366))
unfolding clock_value year_day_of
year_day_between start second =
    let days = days_after_first (day_of second) in
    let bounds = calendar-place days in
    wholes_between (place_at days) 366 bounds.0 bounds.1

-- ---- what never falls
pub time_at_most : (start a b : ℤ) → a ≤ℤ b → clock_value Time start a ≤ℚ clock_value Time start b
unfolding clock_value
time_at_most start a b h = clock_order-hours (a -ℤ start) (b -ℤ start) (omega (arith, ints, h))

same_at_most : (p q : Rational) → p ≡ q → p ≤ℚ q
same_at_most p q e = subst (λ x. p ≤ℚ x) e (order-reflexive p)

clock_time_at_most : (start a b : ℤ) → day_of a ≡ day_of b → a ≤ℤ b
    → clock_value ClockTime start a ≤ℚ clock_value ClockTime start b
clock_time_at_most start a b e h = by_test (int_lt a b) refl
  where
    by_test : (t : Bool) → int_lt a b ≡ t → clock_value ClockTime start a ≤ℚ clock_value ClockTime start b
    by_test true f =
        order-below_is_at_most (clock_value ClockTime start a) (clock_value ClockTime start b)
        (clock_order-clock_time start a b e (omega (arith, ints, f)))
    by_test false f =
        let same : a ≡ b = omega (arith, ints, f, h) in
        same_at_most (clock_value ClockTime start a) (clock_value ClockTime start b) (ap (clock_value ClockTime start) same)

pub one_day_at_most : (attribute : ClockAttr) (start a b : ℤ) → day_of a ≡ day_of b → a ≤ℤ b
    → clock_value attribute start a ≤ℚ clock_value attribute start b
one_day_at_most Time start a b e h = time_at_most start a b h
one_day_at_most Date start a b e h = clock_order-date start a b h
one_day_at_most Month start a b e h =
    same_at_most (clock_value Month start a) (clock_value Month start b) (one_day-month start a b e)
one_day_at_most Day start a b e h =
    same_at_most (clock_value Day start a) (clock_value Day start b) (one_day-week_day start a b e)
one_day_at_most ClockTime start a b e h = clock_time_at_most start a b e h
one_day_at_most DayOfYear start a b e h =
    same_at_most (clock_value DayOfYear start a) (clock_value DayOfYear start b) (one_day-year_day start a b e)
