use Rattle.premise_eval.proofs.PlaceSteps.{found_link}
use Rattle.premise_eval.proofs.find.link_at.Goals as goal

pub returns-clause-found : goal.returns-clause-found
returns-clause-found c = found_link c.args.links.now c.args.link c.first_link.result c.first_link.ensures.value
