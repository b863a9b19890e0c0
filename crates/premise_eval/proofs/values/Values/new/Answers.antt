use Rattle.premise_eval.proofs.PlanSteps.{none_fit, step_is}
use Rattle.premise_eval.proofs.values.Values.new.Goals as goal

pub all_pairs-requires-clause-columns : goal.all_pairs-requires-clause-columns
all_pairs-requires-clause-columns c = none_fit c.args.rules.now _ c.new-columns.ensures.items

pub hours_of_step-requires : goal.hours_of_step-requires
hours_of_step-requires c = record { step = step_is c.args.rules.now c.requires.well_formed }

pub of_step-requires : goal.of_step-requires
of_step-requires c = record { step = step_is c.args.rules.now c.requires.well_formed }
