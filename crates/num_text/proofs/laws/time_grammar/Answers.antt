use Rattle.num_text.proofs.PublicLaws.{time_grammar-time, time_grammar-hours, time_grammar-step, time_grammar-routing_step}
use Rattle.num_text.proofs.laws.time_grammar.Goals as goal

pub returns-clause-time : goal.returns-clause-time
returns-clause-time c = time_grammar-time

pub returns-clause-hours : goal.returns-clause-hours
returns-clause-hours c = time_grammar-hours

pub returns-clause-step : goal.returns-clause-step
returns-clause-step c = time_grammar-step

pub returns-clause-routing_step : goal.returns-clause-routing_step
returns-clause-routing_step c = time_grammar-routing_step
