use Rattle.num_text.proofs.PublicLaws.{number_grammar-read, number_grammar-too_large, number_grammar-no_number, number_grammar-one, number_grammar-known}
use Rattle.num_text.proofs.laws.number_grammar.Goals as goal

pub returns-clause-read : goal.returns-clause-read
returns-clause-read c = number_grammar-read

pub returns-clause-too_large : goal.returns-clause-too_large
returns-clause-too_large c = number_grammar-too_large

pub returns-clause-no_number : goal.returns-clause-no_number
returns-clause-no_number c = number_grammar-no_number

pub returns-clause-one : goal.returns-clause-one
returns-clause-one c = number_grammar-one

pub returns-clause-known : goal.returns-clause-known
returns-clause-known c = number_grammar-known
