use Rattle.trace_csv.proofs.Plain.{plain_line_cut}
use Rattle.trace_csv.proofs.laws.plain_lines.Goals as goal

pub returns : goal.returns
returns c = record { cut = plain_line_cut }
