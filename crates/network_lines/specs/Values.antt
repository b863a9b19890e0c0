-- Values of conditions, actions, options and object lines, as they are read.
use Rattle.std.specs.Prelude.{ℕ, List, Option, None, Some, if◌then◌else◌, Result, Ok}
use Rattle.std.specs.Prelude.{Err, pos}
use Rattle.std.specs.Option.{option_map}
use Rattle.exact_fraction.specs.Number.{Rational, whole, zero}
use Rattle.exact_fraction.specs.Order.{less}
use Rattle.key_words.specs.Words.{status_word, status_setting}
use Rattle.num_text.specs.Dates.{date_of, day_of_year_of}
use Rattle.num_text.specs.Fields.{◌>>=◌}
use Rattle.num_text.specs.Numbers.{number_of, number_in}
use Rattle.num_text.specs.Times.{time_of, hours_in_digits}
use Rattle.num_text.specs.declared.error.NumberFault.{NumberFault}
use Rattle.num_text.specs.declared.error.NumberFault.TheVariants.{BadNumber, TooLarge}
use Rattle.rule_types.specs.declared.refusal.Cause.{Cause}
use Rattle.rule_types.specs.declared.refusal.Cause.TheVariants.{WrongValue, NumberTooLarge}
use Rattle.control_lines.specs.Faults.{Checked, or_fault}
use Rattle.network_lines.specs.declared.value.ValueKind.{ValueKind}
use Rattle.network_lines.specs.declared.value.ValueKind.TheVariants.{Status, Time, Date, DayOfYear}
use Rattle.network_lines.specs.declared.value.ValueKind.TheVariants.{Number, Setting, TravelTime}

-- a number that is no less than 0
abbrev pub if_not_negative : Rational → Option Rational
if_not_negative q = if less q zero then None else Some q

-- the value of a kind that an item writes: a status as its setting, times in hours, a date as its
-- day number, a day of the year as its place in the year (the forms are those of the SWMM 5.2
-- manual, [CONTROLS])
abbrev pub value_as : ValueKind → List ℕ → Option Rational
value_as Status item = option_map status_setting (status_word item)
value_as Time item = time_of item
value_as Date item = option_map whole (date_of item)
value_as DayOfYear item = option_map (λ day. whole (pos day)) (day_of_year_of item)
value_as Number item = number_in item
value_as Setting item = number_in item >>= λ q. if_not_negative q
value_as TravelTime item = hours_in_digits item

-- why an item that is no value of its kind is refused: a number that is too large is reported as
-- such, whatever is wanted there
abbrev pub wrong_cause : Result Rational NumberFault → Cause
wrong_cause (Ok number) = WrongValue
wrong_cause (Err BadNumber) = WrongValue
wrong_cause (Err TooLarge) = NumberTooLarge

-- the value of a kind that an item writes, or why there is none
unfoldable pub value_read : ValueKind → List ℕ → Checked Rational
value_read kind item = or_fault (value_as kind item) (wrong_cause (number_of item)) item
