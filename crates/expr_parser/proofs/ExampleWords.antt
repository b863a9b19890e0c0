-- The closed words that are opened to compute the worked examples.
use Rattle.std.specs.Prelude.{⊤}
use Rattle.exact_fraction.specs.Number.{den, last_remainder, gcd, cancelled, ratio, fits}
use Rattle.num_text.specs.Fields.{leading_digits, past_digits, field}
use Rattle.num_text.specs.Numbers.{spelling_of, without_end_zeros, spelled, bounded, scaled}
use Rattle.expr_parser.specs.Tokens.{number_length, sign_kind, lexeme, tokens, token_text}
use Rattle.expr_parser.specs.Names.{place_of, variable_of}
use Rattle.expr_parser.specs.Formulas.{deeper, function_in, digit_of, variable, constant, enclosed}
use Rattle.expr_parser.specs.Formulas.{negated, raised, applied, joined, operations, closed}
use Rattle.expr_parser.specs.Formulas.{exponent, to_power, group, named, atom, power, signed}
use Rattle.expr_parser.specs.Formulas.{product, products, sum, formula_in}
use Rattle.expr_parser.specs.Reading.{is_unknown, is_outside, is_too_large, if_shallow}
use Rattle.expr_parser.specs.Reading.{built_or_fault, formula_of, expr_in}

unfoldable pub number_words : ⊤
unfolding den last_remainder gcd cancelled ratio fits leading_digits past_digits field spelling_of without_end_zeros spelled bounded scaled
number_words = tt

unfoldable pub token_words : ⊤
unfolding number_length sign_kind lexeme tokens token_text place_of variable_of
token_words = tt

unfoldable pub rule_words : ⊤
unfolding deeper function_in digit_of variable constant enclosed negated raised applied joined operations closed exponent to_power group named atom power signed product products sum formula_in
rule_words = tt

unfoldable pub reading_words : ⊤
unfolding number_words token_words rule_words is_unknown is_outside is_too_large if_shallow built_or_fault formula_of expr_in
reading_words = tt
