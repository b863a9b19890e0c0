use Rattle.std.proofs.Common.{refl}
use Rattle.std.specs.Fmt.{digits}
use Rattle.range_lines.proofs.examples.reports.Goals as goal

pub returns : goal.returns
unfolding digits
returns c = record {
  of_line = refl;
  of_key = refl;
  of_moments = refl;
}
