use Rattle.clock_values.proofs.PublicLaws.{steps-routing}
use Rattle.moment_pieces.proofs.Agreement.{half_steps_fit}
use Rattle.moment_pieces.proofs.piece_lists.moment_cuts.Goals as goal

pub cuts_between-requires-clause-fit : goal.cuts_between-requires-clause-fit
cuts_between-requires-clause-fit c = half_steps_fit c.args.rules.now c.requires.rules

pub cuts_between-requires-clause-step : goal.cuts_between-requires-clause-step
cuts_between-requires-clause-step c = steps-routing c.args.step c.requires.step
