use Rattle.range_lines.proofs.FitLines.{read_fits}
use Rattle.range_lines.proofs.reading.read_ranges.Goals as goal

pub returns-in-Ok : goal.returns-in-Ok
returns-in-Ok c = record {
  file = c.in-Ok.ensures;
  fit = read_fits c.args.rules.now c.args.objects.now c.args.lines.now c.in-Ok.read c.in-Ok.ensures;
}
