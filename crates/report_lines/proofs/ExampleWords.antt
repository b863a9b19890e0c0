-- The closed words that are opened to compute the worked examples.
use Rattle.std.specs.Prelude.{⊤}
use Rattle.std.specs.Fmt.{digits}
use Rattle.exact_fraction.specs.Number.{den, last_remainder, gcd, cancelled, ratio, whole, fits}
use Rattle.exact_fraction.specs.Order.{compares, less, same}
use Rattle.exact_fraction.specs.Checked.{fitting, made}
use Rattle.num_text.specs.Clocks.{seconds_part, clock, moment_of}
use Rattle.num_text.specs.Counts.{count_of}
use Rattle.num_text.specs.Fields.{leading_digits, past_digits, field, field_below}
use Rattle.num_text.specs.Numbers.{without_end_zeros}
use Rattle.num_text.specs.Pointed.{decimals}
use Rattle.num_text.specs.Values.{spelled_value, written_value, written_size, written_units}
use Rattle.num_text.specs.Written.{places}
use Rattle.key_words.specs.Words.{object_word, plain_attribute, hour_depth, attribute_named}
use Rattle.verdict_meaning.specs.Grids.{number_of_key, sample_links}
use Rattle.verdict_meaning.specs.Questions.{is_asked, asked_numbers, with_key, in_key_order, grid_keys}
use Rattle.verdict_meaning.specs.Questions.{has_moments}
use Rattle.report_lines.specs.KeyLines.{past_text, past_key, key_named, low_end, high_end, piece_of}
use Rattle.report_lines.specs.QuestionLines.{link_named, question_by}
use Rattle.report_lines.specs.Reports.{verdict_line, verdict_from, entry_from, version_by, next_from}
use Rattle.report_lines.specs.Reports.{entries_from, report_of, verdict_at}
use Rattle.report_lines.specs.StateLines.{values_from, state_from, pieces_from, cell_from}
use Rattle.report_lines.specs.TreeLines.{split_line, node_line, node_at, fact_line, facts_from, tree_from}
use Rattle.report_lines.specs.Words.{words_of, value_of, written_moment_of, rule_place}

-- of numbers and texts
unfoldable pub text_words : ⊤
unfolding digits den last_remainder gcd cancelled ratio whole fits compares less same fitting made seconds_part clock moment_of count_of leading_digits past_digits field field_below without_end_zeros decimals spelled_value written_value written_size written_units places object_word plain_attribute hour_depth attribute_named
text_words = tt

-- of one line
unfoldable pub line_words : ⊤
unfolding text_words past_text past_key key_named low_end high_end piece_of link_named question_by split_line node_line fact_line verdict_line version_by words_of value_of written_moment_of rule_place
line_words = tt

-- of reports
unfoldable pub report_words : ⊤
unfolding line_words number_of_key sample_links is_asked asked_numbers with_key in_key_order grid_keys has_moments verdict_from entry_from next_from entries_from report_of values_from state_from pieces_from cell_from facts_from tree_from node_at verdict_at
report_words = tt
