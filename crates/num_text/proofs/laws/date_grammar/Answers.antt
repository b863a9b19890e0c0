use Rattle.num_text.proofs.PublicLaws.{date_grammar-date, date_grammar-day_of_year, date_grammar-moment}
use Rattle.num_text.proofs.laws.date_grammar.Goals as goal

pub returns-clause-date : goal.returns-clause-date
returns-clause-date c = date_grammar-date

pub returns-clause-day_of_year : goal.returns-clause-day_of_year
returns-clause-day_of_year c = date_grammar-day_of_year

pub returns-clause-moment : goal.returns-clause-moment
returns-clause-moment c = date_grammar-moment
