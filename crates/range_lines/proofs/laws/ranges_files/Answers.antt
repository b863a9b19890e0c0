-- The law of ranges that were read.
use Rattle.range_lines.proofs.PublicLaws.{ranges_files-fit}
use Rattle.range_lines.proofs.laws.ranges_files.Goals as goal

pub returns : goal.returns
returns c = record { fit = ranges_files-fit }
