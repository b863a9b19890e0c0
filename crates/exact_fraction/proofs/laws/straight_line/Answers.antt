-- The laws of the straight line.
use Rattle.exact_fraction.proofs.PublicLaws.{straight_line-at_first, straight_line-at_last}
use Rattle.exact_fraction.proofs.PublicLaws.{straight_line-rising, straight_line-falling}
use Rattle.exact_fraction.proofs.PublicLaws.{straight_line-rising_below}
use Rattle.exact_fraction.proofs.PublicLaws.{straight_line-falling_below, straight_line-between}
use Rattle.exact_fraction.proofs.laws.straight_line.Goals as goal

pub returns-clause-at_first : goal.returns-clause-at_first
returns-clause-at_first c = straight_line-at_first

pub returns-clause-at_last : goal.returns-clause-at_last
returns-clause-at_last c = straight_line-at_last

pub returns-clause-rising : goal.returns-clause-rising
returns-clause-rising c = straight_line-rising

pub returns-clause-falling : goal.returns-clause-falling
returns-clause-falling c = straight_line-falling

pub returns-clause-rising_below : goal.returns-clause-rising_below
returns-clause-rising_below c = straight_line-rising_below

pub returns-clause-falling_below : goal.returns-clause-falling_below
returns-clause-falling_below c = straight_line-falling_below

pub returns-clause-between : goal.returns-clause-between
returns-clause-between c = straight_line-between
