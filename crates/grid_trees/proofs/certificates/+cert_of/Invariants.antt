use Rattle.block_search.specs.Trees.{depth}
use Rattle.grid_trees.proofs.certificates.+cert_of.Given as goal

abbrev pub decreases-cert_of : goal.decreases-cert_of
decreases-cert_of l = depth l.tree
