-- The closed words that are opened to compute worked examples.
use Rattle.std.specs.Prelude.{⊤}
use Rattle.jiff_core.specs.Calendar.{days_from_civil, day_count, days_of_years, days_of_months}
use Rattle.exact_fraction.specs.Number.{den, last_remainder, gcd, cancelled, ratio, whole, fits}
use Rattle.exact_fraction.specs.Checked.{checked}
use Rattle.exact_fraction.specs.Operations.{sum_of, difference_of, product_of, quotient_of}
use Rattle.exact_fraction.specs.Operations.{quotient_parts}
use Rattle.exact_fraction.specs.Order.{less}
use Rattle.num_text.specs.Clocks.{seconds_part, clock}
use Rattle.num_text.specs.Dates.{month_day_year}
use Rattle.num_text.specs.Fields.{leading_digits, past_digits, field, field_below}
use Rattle.num_text.specs.Numbers.{spelling_of, without_end_zeros, spelled, bounded, scaled}
use Rattle.num_text.specs.Pointed.{decimals, decimal_up_to}
use Rattle.rule_types.specs.Refusals.{earlier, lower, goes_before}
use Rattle.curves_series.specs.Pairs.{has_bad_pair, last_x, first_too_large, points_of, pairs_read}
use Rattle.curves_series.specs.Groups.{with_line, with_lines}
use Rattle.curves_series.specs.Curves.{number_pairs, has_point, curve_line, curve_lines, curve_of}
use Rattle.curves_series.specs.Curves.{items_read}
use Rattle.curves_series.specs.Series.{hours_of_day, entries_of, series_line, series_lines}
use Rattle.curves_series.specs.Series.{series_items, series_of}
use Rattle.curves_series.specs.Names.{name_used, is_used}
use Rattle.rule_meaning.specs.Clock.{hours_of}
use Rattle.rule_meaning.specs.StraightLines.{between, line_from, line_value}
use Rattle.curves_series.specs.Reading.{held_from, refusal_from, tables_in}

unfoldable pub number_words : ⊤
unfolding den last_remainder gcd cancelled ratio whole fits checked sum_of difference_of product_of quotient_of quotient_parts less
number_words = tt

unfoldable pub text_words : ⊤
unfolding spelling_of without_end_zeros spelled bounded scaled leading_digits past_digits field field_below seconds_part clock month_day_year decimals decimal_up_to days_from_civil day_count days_of_years days_of_months
text_words = tt

unfoldable pub table_words : ⊤
unfolding number_words text_words earlier lower goes_before has_bad_pair last_x first_too_large points_of pairs_read with_line with_lines number_pairs has_point items_read curve_line curve_lines curve_of hours_of_day entries_of series_items series_line series_lines series_of name_used is_used held_from refusal_from tables_in hours_of between line_from line_value
table_words = tt
