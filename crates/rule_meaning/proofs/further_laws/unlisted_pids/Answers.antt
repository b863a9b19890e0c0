-- Further laws.
use Rattle.rule_meaning.proofs.PublicLaws.{unlisted_pids-keep}
use Rattle.rule_meaning.proofs.further_laws.unlisted_pids.Goals as goal

pub returns : goal.returns
returns c = record { keep = unlisted_pids-keep }
