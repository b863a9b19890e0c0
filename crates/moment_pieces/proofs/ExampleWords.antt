-- The closed words that are opened to compute worked examples.
use Rattle.std.specs.Prelude.{⊤}
use Rattle.exact_fraction.specs.Number.{den, last_remainder, gcd, cancelled, ratio, whole}
use Rattle.exact_fraction.specs.Operations.{sum_of, difference_of, quotient_of, quotient_parts}
use Rattle.exact_fraction.specs.Order.{less, same}
use Rattle.rule_meaning.specs.Clock.{day_of, hours_of, clock_value}
use Rattle.rule_meaning.specs.Condition.{hours_of_step, half_of, is_within, time_relates, meets}
use Rattle.rule_meaning.specs.Condition.{second_truth}
use Rattle.moment_pieces.specs.Pieces.{is_midnight, truth_changes, condition_changes, begins_piece}
use Rattle.moment_pieces.specs.Pieces.{later_firsts, piece_firsts}
use Rattle.moment_pieces.specs.Sides.{side_of}

unfoldable pub number_words : ⊤
unfolding den last_remainder gcd cancelled ratio whole less same
number_words = tt

unfoldable pub clock_words : ⊤
unfolding number_words sum_of difference_of quotient_of quotient_parts day_of hours_of clock_value hours_of_step half_of is_within time_relates meets second_truth
clock_words = tt

unfoldable pub piece_words : ⊤
unfolding clock_words is_midnight truth_changes condition_changes side_of begins_piece later_firsts piece_firsts
piece_words = tt
