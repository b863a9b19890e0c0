-- The laws of decisions.
use Rattle.grid_trees.proofs.PublicLaws.{decisions-flat, decisions-has_sample, decisions-holds}
use Rattle.grid_trees.proofs.PublicLaws.{decisions-open_cell, decisions-refuted}
use Rattle.grid_trees.proofs.laws.decisions.Goals as goal

pub returns-clause-holds : goal.returns-clause-holds
returns-clause-holds c = decisions-holds

pub returns-clause-flat : goal.returns-clause-flat
returns-clause-flat c = decisions-flat

pub returns-clause-refuted : goal.returns-clause-refuted
returns-clause-refuted c = decisions-refuted

pub returns-clause-has_sample : goal.returns-clause-has_sample
returns-clause-has_sample c = decisions-has_sample

pub returns-clause-open_cell : goal.returns-clause-open_cell
returns-clause-open_cell c = decisions-open_cell
