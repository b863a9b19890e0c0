-- The laws of replays.
use Rattle.rule_meaning.proofs.PublicLaws.{replay-as_many, replay-fit, replay-within_one}
use Rattle.rule_meaning.proofs.PublicLaws.{replay-dated, replay-undated}
use Rattle.rule_meaning.proofs.laws.replay.Goals as goal

pub returns-clause-as_many : goal.returns-clause-as_many
returns-clause-as_many c = replay-as_many

pub returns-clause-fit : goal.returns-clause-fit
returns-clause-fit c = replay-fit

pub returns-clause-within_one : goal.returns-clause-within_one
returns-clause-within_one c = replay-within_one

pub returns-clause-dated : goal.returns-clause-dated
returns-clause-dated c = replay-dated

pub returns-clause-undated : goal.returns-clause-undated
returns-clause-undated c = replay-undated
