-- The laws of trees.
use Rattle.grid_trees.proofs.PublicLaws.{trees-accepted, trees-lean}
use Rattle.grid_trees.proofs.laws.trees.Goals as goal

pub returns-clause-accepted : goal.returns-clause-accepted
returns-clause-accepted c = trees-accepted

pub returns-clause-lean : goal.returns-clause-lean
returns-clause-lean c = trees-lean
