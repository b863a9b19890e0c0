-- What the closed words of well formed rules say.
use Rattle.rule_types.proofs.PublicLaws.{opened-orders, opened-times, opened-lists}
use Rattle.rule_types.proofs.PublicLaws.{opened-pid_places}
use Rattle.rule_types.proofs.laws.opened.Goals as goal

pub returns : goal.returns
returns c = record { orders = opened-orders; times = opened-times; lists = opened-lists; pid_places = opened-pid_places }
