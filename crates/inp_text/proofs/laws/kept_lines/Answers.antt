use Rattle.inp_text.proofs.PublicLaws.{kept_lines-kept, kept_lines-members, kept_lines-order}
use Rattle.inp_text.proofs.laws.kept_lines.Goals as goal

pub returns-clause-kept : goal.returns-clause-kept
returns-clause-kept c = kept_lines-kept

pub returns-clause-members : goal.returns-clause-members
returns-clause-members c = kept_lines-members

pub returns-clause-order : goal.returns-clause-order
returns-clause-order c = kept_lines-order
