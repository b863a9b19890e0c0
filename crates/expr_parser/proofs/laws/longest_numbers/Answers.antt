use Rattle.expr_parser.proofs.PublicLaws.{longest_numbers-longest, longest_numbers-found, longest_numbers-number}
use Rattle.expr_parser.proofs.laws.longest_numbers.Goals as goal

pub returns-clause-longest : goal.returns-clause-longest
returns-clause-longest c = longest_numbers-longest

pub returns-clause-found : goal.returns-clause-found
returns-clause-found c = longest_numbers-found

pub returns-clause-number : goal.returns-clause-number
returns-clause-number c = longest_numbers-number
