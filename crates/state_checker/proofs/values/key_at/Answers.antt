use Rattle.state_checker.proofs.KeySteps.{found_key}
use Rattle.state_checker.proofs.values.key_at.Goals as goal

pub returns-clause-found : goal.returns-clause-found
returns-clause-found c = found_key c.args.keys.now c.args.key.now c.first_key.result c.first_key.ensures.value
