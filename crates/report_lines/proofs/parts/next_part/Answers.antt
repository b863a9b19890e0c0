use Rattle.report_lines.proofs.Cuts.{cut_found, cut_absent}
use Rattle.report_lines.proofs.parts.next_part.Goals as goal

pub returns-in-Some : goal.returns-in-Some
returns-in-Some c = cut_found c.args.separator c.args.text.now c.in-Some.at c.in-Some.ensures.value

pub returns-in-None : goal.returns-in-None
returns-in-None c = cut_absent c.args.separator c.args.text.now c.in-None.ensures.value
