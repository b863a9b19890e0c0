-- What the crates above may cite in their lemmas, and all that they may. Each term proves the clause of src/laws.rt that its name tells, law and
-- clause, and the answers of those laws are these terms: so no more is cited than a public clause says.
use Rattle.std.proofs.Common.{◌≡◌, ℕ, ◌*◌, ◌%◌, ◌^◌, ◌⊎◌, List, ℤ, Some, sym, ap, ◌∙◌}
use Rattle.std.specs.Prelude.{IsTrue}
use Rattle.std.specs.List.{list_all}
use Rattle.std.specs.Char.{is_ascii_digit}
use Rattle.std.specs.Str.Parse.{digits_value}
use Rattle.exact_fraction.specs.Moments.{IsMoment}
use Rattle.exact_fraction.specs.Number.{Rational, IsNumber}
use Rattle.num_text.specs.Clocks.{moment_of}
use Rattle.num_text.specs.Numbers.{significand, end_zeros}
use Rattle.num_text.specs.Values.{written_value, spelled_value}
use Rattle.num_text.specs.Written.{written_moment}
use Rattle.num_text.proofs.Tens.{significand_is}
pub use Rattle.num_text.proofs.ClockForms.{clock-read as clock_grammar-read, clock-one as clock_grammar-one}
pub use Rattle.num_text.proofs.NumberForms.{number-read as number_grammar-read, number-too_large as number_grammar-too_large, number-no_number as number_grammar-no_number, number-one as number_grammar-one, number-known as number_grammar-known}
pub use Rattle.num_text.proofs.TimeForms.{time-read as time_grammar-time, hours-read as time_grammar-hours, step-read as time_grammar-step, routing_step-read as time_grammar-routing_step}
pub use Rattle.num_text.proofs.DateForms.{date-read as date_grammar-date, day_of_year-read as date_grammar-day_of_year}
pub use Rattle.num_text.proofs.MomentForms.{moment-read as date_grammar-moment}
pub use Rattle.num_text.proofs.RoundTrips.{moment_of-written as round_trips-moment}
pub use Rattle.num_text.proofs.ValueTrips.{value_back as round_trips-value}
pub use Rattle.num_text.proofs.Within.{time-bounds as readings-time, hours-bounds as readings-hours, step-bounds as readings-step, routing_step-bounds as readings-routing_step}
pub use Rattle.num_text.proofs.Years.{date_told as calendar-date, date_number as calendar-number, place_bounds as calendar-place, month_bounds as calendar-month}
pub use Rattle.num_text.proofs.Numerals.{count_of-decimal as counts-back, count-written as counts-written, count-below as counts-below}

pub round_trips-one_moment : (s t : ℤ) → IsMoment s → IsMoment t → written_moment s ≡ written_moment t → s ≡ t
round_trips-one_moment s t p q same =
    let both : Some s ≡ Some t = sym (round_trips-moment s p) ∙ ap moment_of same ∙ round_trips-moment t q in
    cc

pub round_trips-one_value : (p q : Rational) → IsNumber p → IsNumber q → written_value p ≡ written_value q → p ≡ q
round_trips-one_value p q held kept same =
    let both : Some p ≡ Some q = sym (round_trips-value p held) ∙ ap spelled_value same ∙ round_trips-value q kept in
    cc

pub significands-value : (digits : List ℕ) → IsTrue (list_all is_ascii_digit digits) → digits_value 10 digits ≡ significand digits * 10 ^ end_zeros digits
significands-value digits e = (significand_is digits e).0

pub significands-least : (digits : List ℕ) → IsTrue (list_all is_ascii_digit digits) → (significand digits ≡ 0) ⊎ (significand digits % 10 ≡ 0 → ⊥)
significands-least digits e = (significand_is digits e).1
