-- The laws of boxes.
use Rattle.verdict_meaning.proofs.PublicLaws.{boxes-premise}
use Rattle.verdict_meaning.proofs.PublicLaws.{boxes-known}
use Rattle.verdict_meaning.proofs.laws.boxes.Goals as goal

pub returns-clause-premise : goal.returns-clause-premise
returns-clause-premise c = boxes-premise

pub returns-clause-known : goal.returns-clause-known
returns-clause-known c = boxes-known
