-- The closed words that are opened to compute worked examples.
use Rattle.std.specs.Prelude.{⊤}
use Rattle.exact_fraction.specs.Number.{den, last_remainder, gcd, cancelled, ratio, whole, fits}
use Rattle.exact_fraction.specs.Checked.{checked}
use Rattle.exact_fraction.specs.Operations.{sum_of, difference_of, product_of, quotient_of}
use Rattle.exact_fraction.specs.Operations.{quotient_parts}
use Rattle.exact_fraction.specs.Order.{less}
use Rattle.rule_meaning.specs.Clock.{hours_of}
use Rattle.rule_meaning.specs.StraightLines.{between, line_from}
use Rattle.table_hulls.specs.Hulls.{values_between, values_from, all_values, table_hull}
use Rattle.table_hulls.specs.Hulls.{interval_part, curve_hull, second_from, second_up_to}
use Rattle.table_hulls.specs.Hulls.{hours_between, seconds_part, series_hull}

unfoldable pub number_words : ⊤
unfolding den last_remainder gcd cancelled ratio whole fits checked sum_of difference_of product_of quotient_of quotient_parts less
number_words = tt

unfoldable pub hull_words : ⊤
unfolding number_words hours_of between line_from values_between values_from all_values table_hull interval_part curve_hull second_from second_up_to hours_between seconds_part series_hull
hull_words = tt
