use Rattle.num_text.proofs.PublicLaws.{significands-value, significands-least}
use Rattle.num_text.proofs.laws.significands.Goals as goal

pub returns-clause-value : goal.returns-clause-value
returns-clause-value c = significands-value

pub returns-clause-least : goal.returns-clause-least
returns-clause-least c = significands-least
