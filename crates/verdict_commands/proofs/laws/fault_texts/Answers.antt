use Rattle.verdict_commands.proofs.PublicLaws.{fault_texts-same}
use Rattle.verdict_commands.proofs.laws.fault_texts.Goals as goal

pub returns : goal.returns
returns c = record { same = fault_texts-same }
