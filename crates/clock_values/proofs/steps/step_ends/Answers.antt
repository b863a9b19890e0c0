use Rattle.clock_values.proofs.EndsFit.{ends_fit}
use Rattle.clock_values.proofs.steps.step_ends.Goals as goal

pub fitting_ends-requires : goal.fitting_ends-requires
fitting_ends-requires c = record { fits = ends_fit c.args.time.now c.args.step.now c.requires.time c.requires.step }
