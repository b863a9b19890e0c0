use Rattle.num_text.proofs.PublicLaws.{clock_grammar-read, clock_grammar-one}
use Rattle.num_text.proofs.laws.clock_grammar.Goals as goal

pub returns-clause-read : goal.returns-clause-read
returns-clause-read c = clock_grammar-read

pub returns-clause-one : goal.returns-clause-one
returns-clause-one c = clock_grammar-one
