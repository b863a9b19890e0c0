-- The laws `orders`.
use Rattle.grid_blocks.proofs.PublicLaws.{orders-cuts}
use Rattle.grid_blocks.proofs.PublicLaws.{orders-firsts}
use Rattle.grid_blocks.proofs.PublicLaws.{orders-keys}
use Rattle.grid_blocks.proofs.PublicLaws.{orders-grid}
use Rattle.grid_blocks.proofs.laws.orders.Goals as goal

pub returns-clause-cuts : goal.returns-clause-cuts
returns-clause-cuts c = orders-cuts

pub returns-clause-firsts : goal.returns-clause-firsts
returns-clause-firsts c = orders-firsts

pub returns-clause-keys : goal.returns-clause-keys
returns-clause-keys c = orders-keys

pub returns-clause-grid : goal.returns-clause-grid
returns-clause-grid c = orders-grid
