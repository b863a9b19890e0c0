-- The laws of listed pairs.
use Rattle.rule_meaning.proofs.PublicLaws.{listing-listed, listing-one_branch_each}
use Rattle.rule_meaning.proofs.PublicLaws.{listing-one_branch_given, listing-same_branches}
use Rattle.rule_meaning.proofs.laws.listing.Goals as goal

pub returns-clause-listed : goal.returns-clause-listed
returns-clause-listed c = listing-listed

pub returns-clause-one_branch_each : goal.returns-clause-one_branch_each
returns-clause-one_branch_each c = listing-one_branch_each

pub returns-clause-one_branch_given : goal.returns-clause-one_branch_given
returns-clause-one_branch_given c = listing-one_branch_given

pub returns-clause-same_branches : goal.returns-clause-same_branches
returns-clause-same_branches c = listing-same_branches
