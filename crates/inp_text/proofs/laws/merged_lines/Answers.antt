use Rattle.inp_text.proofs.PublicLaws.{merged_lines-one, merged_lines-either, merged_lines-order}
use Rattle.inp_text.proofs.laws.merged_lines.Goals as goal

pub returns-clause-one : goal.returns-clause-one
returns-clause-one c = merged_lines-one

pub returns-clause-either : goal.returns-clause-either
returns-clause-either c = merged_lines-either

pub returns-clause-order : goal.returns-clause-order
returns-clause-order c = merged_lines-order
