-- The closed words that are opened to compute worked examples.
use Rattle.std.specs.Prelude.{⊤}
use Rattle.std.specs.Fmt.{digits}
use Rattle.interval_sets.specs.Sets.{and_interval, normal_form, set_of, union_of, intersection_of}
use Rattle.num_text.specs.Numbers.{without_end_zeros}
use Rattle.num_text.specs.Values.{written_value, written_size, written_units}
use Rattle.num_text.specs.Written.{places}
use Rattle.exact_fraction.specs.Number.{den, last_remainder, gcd, cancelled, ratio, whole}
use Rattle.exact_fraction.specs.Order.{less, same}
use Rattle.rule_meaning.specs.State.{beside, input_value, link_state, value}
use Rattle.rule_meaning.specs.Condition.{left_value, right_value, meets, holds}
use Rattle.rule_meaning.specs.Premise.{groups, placed_from}
use Rattle.rule_meaning.specs.Reading.{conditions_at}
use Rattle.table_compiler.specs.Parts.{part_of, with_part, with_conditions}
use Rattle.table_compiler.specs.Clauses.{with_clause, with_clauses, clauses_of, is_possible}
use Rattle.table_compiler.specs.Rows.{rule_precedes, with_place, ranked_from, branch_rows, cut, rows_on, tables_of}
use Rattle.table_compiler.specs.Meaning.{part_holds, clause_holds, row_holds, ordered_by, tabled}
use Rattle.table_compiler.specs.TableText.{clause_text, row_line, link_text, table_text}

unfoldable pub number_words : ⊤
unfolding den last_remainder gcd cancelled ratio whole less same
number_words = tt

unfoldable pub set_words : ⊤
unfolding and_interval normal_form set_of union_of intersection_of
set_words = tt

unfoldable pub row_words : ⊤
unfolding groups placed_from part_of with_part with_conditions with_clause with_clauses clauses_of is_possible rule_precedes with_place ranked_from branch_rows cut rows_on tables_of
row_words = tt

unfoldable pub meaning_words : ⊤
unfolding beside input_value link_state value left_value right_value meets holds conditions_at part_holds clause_holds row_holds ordered_by tabled
meaning_words = tt

unfoldable pub text_words : ⊤
unfolding digits without_end_zeros written_value written_size written_units places clause_text row_line link_text table_text
text_words = tt

unfoldable pub table_words : ⊤
unfolding number_words set_words row_words meaning_words text_words
table_words = tt
