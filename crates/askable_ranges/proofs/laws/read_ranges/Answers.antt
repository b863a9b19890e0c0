-- The law of ranges that were read from a file.
use Rattle.askable_ranges.proofs.PublicLaws.{read_ranges-closed, read_ranges-tracked}
use Rattle.askable_ranges.proofs.PublicLaws.{read_ranges-prepared_tracked, read_ranges-fit}
use Rattle.askable_ranges.proofs.PublicLaws.{read_ranges-prepared_fit, read_ranges-moments}
use Rattle.askable_ranges.proofs.PublicLaws.{read_ranges-prepared_moments}
use Rattle.askable_ranges.proofs.laws.read_ranges.Goals as goal

pub returns-clause-closed : goal.returns-clause-closed
returns-clause-closed c = read_ranges-closed

pub returns-clause-tracked : goal.returns-clause-tracked
returns-clause-tracked c = read_ranges-tracked

pub returns-clause-prepared_tracked : goal.returns-clause-prepared_tracked
returns-clause-prepared_tracked c = read_ranges-prepared_tracked

pub returns-clause-fit : goal.returns-clause-fit
returns-clause-fit c = read_ranges-fit

pub returns-clause-prepared_fit : goal.returns-clause-prepared_fit
returns-clause-prepared_fit c = read_ranges-prepared_fit

pub returns-clause-moments : goal.returns-clause-moments
returns-clause-moments c = read_ranges-moments

pub returns-clause-prepared_moments : goal.returns-clause-prepared_moments
returns-clause-prepared_moments c = read_ranges-prepared_moments
