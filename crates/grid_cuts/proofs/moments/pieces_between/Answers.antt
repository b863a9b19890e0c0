use Rattle.rule_types.proofs.PublicLaws.{opened-times}
use Rattle.grid_cuts.proofs.moments.pieces_between.Goals as goal

pub moment_cuts-requires-clause-step : goal.moment_cuts-requires-clause-step
moment_cuts-requires-clause-step c =
    (opened-times c.args.rules.now c.requires.rules.bounds).routing_step
