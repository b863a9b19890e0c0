-- The laws of premises.
use Rattle.verdict_meaning.proofs.PublicLaws.{premises-is_yes}
use Rattle.verdict_meaning.proofs.PublicLaws.{premises-is_no}
use Rattle.verdict_meaning.proofs.laws.premises.Goals as goal

pub returns-clause-is_yes : goal.returns-clause-is_yes
returns-clause-is_yes c = premises-is_yes

pub returns-clause-is_no : goal.returns-clause-is_no
returns-clause-is_no c = premises-is_no
