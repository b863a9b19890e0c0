-- The closed words that are opened to compute the worked examples.
use Rattle.std.specs.Prelude.{⊤}
use Rattle.exact_fraction.specs.Number.{den, last_remainder, gcd, cancelled, ratio, whole, fits}
use Rattle.exact_fraction.specs.Order.{compares, less}
use Rattle.exact_fraction.specs.Checked.{fitting, made, checked}
use Rattle.exact_fraction.specs.Operations.{sum_of, difference_of, product_of, quotient_of}
use Rattle.exact_fraction.specs.Operations.{quotient_parts}
use Rattle.num_text.specs.Clocks.{seconds_part, clock}
use Rattle.num_text.specs.Dates.{month_day_year, month_and_day, day_by_number}
use Rattle.num_text.specs.Fields.{leading_digits, past_digits, field, field_below}
use Rattle.num_text.specs.Numbers.{spelling_of, without_end_zeros, scaled, bounded, spelled}
use Rattle.num_text.specs.Pointed.{decimals, decimal_up_to}
use Rattle.num_text.specs.Counts.{count_of}
use Rattle.num_text.specs.Steps.{routing_step_of}
use Rattle.key_words.specs.Words.{object_word, plain_attribute, hour_depth, attribute_named}
use Rattle.key_words.specs.Words.{clock_attribute, relation_of, status_word}
use Rattle.inp_text.specs.Headings.{heads, section_named}
use Rattle.rule_types.specs.Refusals.{goes_before, lower, earlier}
use Rattle.control_lines.specs.Clauses.{next_stage}
use Rattle.control_lines.specs.Faults.{sooner, both}
use Rattle.control_lines.specs.Statements.{key_at, side_at, variable_by, expression_by}
use Rattle.control_lines.specs.Statements.{condition_by, value_of, action_by, statement_by}
use Rattle.control_lines.specs.Statements.{statement_of}
use Rattle.curves_series.specs.Pairs.{has_bad_pair, last_x, first_too_large, points_of, pairs_read}
use Rattle.curves_series.specs.Groups.{with_line, with_lines}
use Rattle.curves_series.specs.Curves.{number_pairs, has_point, curve_line, curve_lines, curve_of}
use Rattle.curves_series.specs.Curves.{items_read}
use Rattle.curves_series.specs.Names.{name_used, is_used}
use Rattle.curves_series.specs.Reading.{held_from, refusal_from, tables_in}
use Rattle.expr_parser.specs.Tokens.{number_length, sign_kind, lexeme, tokens, token_text}
use Rattle.expr_parser.specs.Names.{place_of, variable_of}
use Rattle.expr_parser.specs.Formulas.{deeper, function_in, digit_of, variable, constant, enclosed}
use Rattle.expr_parser.specs.Formulas.{negated, raised, applied, joined, operations, closed}
use Rattle.expr_parser.specs.Formulas.{exponent, to_power, group, named, atom, power, signed}
use Rattle.expr_parser.specs.Formulas.{product, products, sum, formula_in}
use Rattle.expr_parser.specs.Reading.{is_unknown, is_outside, is_too_large, if_shallow}
use Rattle.expr_parser.specs.Reading.{built_or_fault, formula_of, expr_in}
use Rattle.network_lines.specs.Limits.{room_for}
use Rattle.network_lines.specs.Values.{value_read}
use Rattle.network_lines.specs.Options.{option_read}
use Rattle.network_lines.specs.Objects.{line_read as object_line_read}
use Rattle.rule_parser.specs.Conditions.{key_read, left_read, right_read, condition_read}
use Rattle.rule_parser.specs.Actions.{pid_part, pid_read, action_read}
use Rattle.rule_parser.specs.Declarations.{name_place, is_name, name_read}
use Rattle.rule_parser.specs.Formulas.{formula_read}
use Rattle.rule_parser.specs.Controls.{statement_read, line_read}
use Rattle.rule_parser.specs.Projects.{rules_of, first_refusal, project_in}

-- of numbers and texts
unfoldable pub text_words : ⊤
unfolding den last_remainder gcd cancelled ratio whole fits compares less fitting made checked sum_of difference_of product_of quotient_of quotient_parts seconds_part clock month_day_year month_and_day day_by_number leading_digits past_digits field field_below spelling_of without_end_zeros scaled bounded spelled decimals decimal_up_to count_of routing_step_of object_word plain_attribute hour_depth attribute_named clock_attribute relation_of status_word heads section_named
text_words = tt

-- of formulas
unfoldable pub formula_words : ⊤
unfolding number_length sign_kind lexeme tokens token_text place_of variable_of deeper function_in digit_of variable constant enclosed negated raised applied joined operations closed exponent to_power group named atom power signed product products sum formula_in is_unknown is_outside is_too_large if_shallow built_or_fault formula_of expr_in
formula_words = tt

-- of tables
unfoldable pub table_words : ⊤
unfolding has_bad_pair last_x first_too_large points_of pairs_read with_line with_lines number_pairs has_point items_read curve_line curve_lines curve_of name_used is_used held_from refusal_from tables_in
table_words = tt

-- of control lines
unfoldable pub line_words : ⊤
unfolding text_words formula_words next_stage sooner both key_at side_at variable_by expression_by condition_by value_of action_by statement_by statement_of goes_before lower earlier room_for value_read key_read left_read right_read condition_read pid_part pid_read action_read name_place is_name name_read formula_read statement_read line_read
line_words = tt

-- of files
unfoldable pub file_words : ⊤
unfolding line_words table_words option_read object_line_read rules_of first_refusal project_in
file_words = tt
