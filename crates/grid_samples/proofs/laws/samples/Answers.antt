use Rattle.grid_samples.proofs.PublicLaws.{samples-fits, samples-in_boxes, samples-in_ranges}
use Rattle.grid_samples.proofs.laws.samples.Goals as goal

pub returns-clause-fits : goal.returns-clause-fits
returns-clause-fits c = samples-fits

pub returns-clause-in_boxes : goal.returns-clause-in_boxes
returns-clause-in_boxes c = samples-in_boxes

pub returns-clause-in_ranges : goal.returns-clause-in_ranges
returns-clause-in_ranges c = samples-in_ranges
