-- The closed words that are opened to compute the worked examples.
use Rattle.std.specs.Prelude.{⊤}
use Rattle.exact_fraction.specs.Number.{den, last_remainder, gcd, cancelled, ratio, whole, fits}
use Rattle.exact_fraction.specs.Order.{compares, less}
use Rattle.exact_fraction.specs.Checked.{fitting, made, checked}
use Rattle.num_text.specs.Clocks.{seconds_part, clock, moment_of}
use Rattle.num_text.specs.Dates.{month_day_year, year_month_day}
use Rattle.num_text.specs.Fields.{leading_digits, past_digits, field, field_below}
use Rattle.num_text.specs.Numbers.{spelling_of, without_end_zeros, scaled, bounded, spelled}
use Rattle.num_text.specs.Pointed.{decimals, decimal_up_to}
use Rattle.num_text.specs.Counts.{count_of}
use Rattle.num_text.specs.Steps.{step_of}
use Rattle.jiff_core.specs.Calendar.{days_from_civil, day_count, days_of_years, days_of_months}
use Rattle.key_words.specs.Words.{object_word, plain_attribute, hour_depth, attribute_named}
use Rattle.range_lines.specs.Entries.{rule_found, link_found, key_found, ends_of, range_by}
use Rattle.range_lines.specs.Entries.{moments_by, step_by, conflict_by, dead_by, limit_by, entry_by}
use Rattle.range_lines.specs.Entries.{entry_of}
use Rattle.range_lines.specs.Lines.{with_range, with_moments, with_step, line_read, lines_read}
use Rattle.range_lines.specs.Lines.{ranges_in}
use Rattle.range_lines.specs.Needs.{first_missing, has_series, needs_fault}
use Rattle.range_lines.specs.Questions.{dead_questions, conflicts_with, conflicts_among}
use Rattle.range_lines.specs.Questions.{all_questions}

-- of numbers and texts
unfoldable pub text_words : ⊤
unfolding den last_remainder gcd cancelled ratio whole fits compares less fitting made checked seconds_part clock moment_of month_day_year year_month_day leading_digits past_digits field field_below spelling_of without_end_zeros scaled bounded spelled decimals decimal_up_to count_of days_from_civil day_count days_of_years days_of_months step_of object_word plain_attribute hour_depth attribute_named
text_words = tt

-- of files
unfoldable pub file_words : ⊤
unfolding text_words rule_found link_found key_found ends_of range_by moments_by step_by conflict_by dead_by limit_by entry_by entry_of with_range with_moments with_step line_read lines_read ranges_in first_missing has_series needs_fault dead_questions conflicts_with conflicts_among all_questions
file_words = tt
