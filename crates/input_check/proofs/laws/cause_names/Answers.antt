use Rattle.input_check.proofs.PublicLaws.{cause_names-known}
use Rattle.input_check.proofs.laws.cause_names.Goals as goal

pub returns : goal.returns
returns c = record { known = cause_names-known }
