use Rattle.inp_text.proofs.PublicLaws.{places_of_items-runs, places_of_items-order}
use Rattle.inp_text.proofs.PublicLaws.{places_of_items-texts, places_of_items-within}
use Rattle.inp_text.proofs.laws.places_of_items.Goals as goal

pub returns-clause-runs : goal.returns-clause-runs
returns-clause-runs c = places_of_items-runs

pub returns-clause-order : goal.returns-clause-order
returns-clause-order c = places_of_items-order

pub returns-clause-texts : goal.returns-clause-texts
returns-clause-texts c = places_of_items-texts

pub returns-clause-within : goal.returns-clause-within
returns-clause-within c = places_of_items-within
