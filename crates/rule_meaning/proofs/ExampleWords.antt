-- The closed words that are opened to compute worked examples, by topic.
use Rattle.std.specs.Prelude.{⊤}
use Rattle.jiff_core.specs.Calendar.{days_of_months, weekday_number}
use Rattle.exact_fraction.specs.Number.{den, last_remainder, gcd, cancelled, ratio, whole, fits}
use Rattle.exact_fraction.specs.Operations.{sum_of, difference_of, product_of, quotient_of}
use Rattle.exact_fraction.specs.Operations.{quotient_parts, negation_of, nearest_whole, round9_of}
use Rattle.exact_fraction.specs.Order.{less, same}
use Rattle.exact_fraction.specs.Checked.{checked, is_zero}
use Rattle.num_text.specs.CivilDays.{year_at, place_at, months_before, month_at}
use Rattle.rule_meaning.specs.Clock.{day_of, hours_of, year_of, month_of, week_day_of}
use Rattle.rule_meaning.specs.Clock.{year_day_of, clock_value}
use Rattle.rule_meaning.specs.Condition.{named_value, left_value, right_value, hours_of_step}
use Rattle.rule_meaning.specs.Condition.{half_of, is_within, time_relates, meets, holds}
use Rattle.rule_meaning.specs.Formula.{fitted, sign_of, size_of, step_of, divided, power}
use Rattle.rule_meaning.specs.Formula.{worked_step, variable_named, formula_value, kind_value}
use Rattle.rule_meaning.specs.Formula.{is_used, stop_from, names_stop_for}
use Rattle.rule_meaning.specs.History.{memory_listed, new_target, all_moved}
use Rattle.rule_meaning.specs.StraightLines.{between, line_from, line_value, series_x}
use Rattle.rule_meaning.specs.Movement.{reach, towards, moved}
use Rattle.rule_meaning.specs.Pid.{is_tiny, relative_error, error_of, unstuck, integral_part}
use Rattle.rule_meaning.specs.Pid.{derivative_part, change_of, bounded, pid_step}
use Rattle.rule_meaning.specs.Premise.{groups, premise_by, placed_from, premise_at, places_of}
use Rattle.rule_meaning.specs.Premise.{listed_by, listed}
use Rattle.rule_meaning.specs.Reading.{conditions_at, pid_at, pids_stop, order_of, settling}
use Rattle.rule_meaning.specs.Reading.{orders_on}
use Rattle.rule_meaning.specs.Replay.{first_standings, is_switch, switches_after, unswitched}
use Rattle.rule_meaning.specs.Replay.{links_at}
use Rattle.rule_meaning.specs.Settled.{action_at, is_on, priority_at, beats, is_unbeaten}
use Rattle.rule_meaning.specs.Settled.{is_settled, settled_on}
use Rattle.rule_meaning.specs.State.{beside, input_value, link_state, status_of, link_value, value}
use Rattle.rule_meaning.specs.Worth.{controller_of, set_point_of, old_target, rate_of, is_pump}
use Rattle.rule_meaning.specs.Worth.{minutes_of, rule_pid, what_worth, worth}

unfoldable pub number_words : ⊤
unfolding den last_remainder gcd cancelled ratio whole fits less same checked is_zero
number_words = tt

unfoldable pub rounding_words : ⊤
unfolding nearest_whole round9_of
rounding_words = tt

unfoldable pub operation_words : ⊤
unfolding sum_of difference_of product_of quotient_of quotient_parts negation_of rounding_words
operation_words = tt

unfoldable pub calendar_words : ⊤
unfolding days_of_months weekday_number year_at place_at months_before month_at
calendar_words = tt

unfoldable pub clock_words : ⊤
unfolding day_of hours_of year_of month_of week_day_of year_day_of clock_value
clock_words = tt

unfoldable pub key_words : ⊤
unfolding beside input_value link_state status_of link_value value
key_words = tt

unfoldable pub function_words : ⊤
unfolding fitted sign_of size_of step_of divided power
function_words = tt

unfoldable pub formula_words : ⊤
unfolding function_words worked_step variable_named formula_value kind_value
formula_words = tt

unfoldable pub name_words : ⊤
unfolding is_used stop_from names_stop_for
name_words = tt

unfoldable pub half_step_words : ⊤
unfolding hours_of_step half_of is_within time_relates
half_step_words = tt

unfoldable pub condition_words : ⊤
unfolding half_step_words named_value left_value right_value meets holds
condition_words = tt

unfoldable pub premise_words : ⊤
unfolding groups premise_by placed_from premise_at places_of listed_by listed
premise_words = tt

unfoldable pub settling_words : ⊤
unfolding action_at is_on priority_at beats is_unbeaten is_settled settled_on settling
settling_words = tt

unfoldable pub line_words : ⊤
unfolding between line_from line_value series_x
line_words = tt

unfoldable pub change_words : ⊤
unfolding is_tiny integral_part derivative_part change_of
change_words = tt

unfoldable pub pid_words : ⊤
unfolding change_words relative_error error_of unstuck bounded pid_step
pid_words = tt

unfoldable pub worth_words : ⊤
unfolding controller_of set_point_of old_target rate_of is_pump minutes_of rule_pid what_worth worth
worth_words = tt

unfoldable pub movement_words : ⊤
unfolding new_target all_moved reach towards moved
movement_words = tt

unfoldable pub reading_words : ⊤
unfolding conditions_at pid_at pids_stop order_of orders_on memory_listed movement_words
reading_words = tt

unfoldable pub replay_words : ⊤
unfolding first_standings is_switch switches_after unswitched links_at
replay_words = tt

-- the words of numbers and of values at a state
unfoldable pub arithmetic : ⊤
unfolding number_words operation_words size_of
arithmetic = tt

unfoldable pub state_words : ⊤
unfolding arithmetic calendar_words clock_words key_words formula_words condition_words
state_words = tt

-- the words of readings, and of what rows leave
unfoldable pub choice_words : ⊤
unfolding premise_words settling_words
choice_words = tt

unfoldable pub rule_words : ⊤
unfolding state_words choice_words name_words line_words pid_words worth_words reading_words
rule_words = tt

unfoldable pub row_words : ⊤
unfolding rule_words replay_words
row_words = tt
