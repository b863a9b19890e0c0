use Rattle.std.proofs.Common.{◌∙◌, ap}
use Rattle.premise_eval.specs.Kept.{Kept}
use Rattle.premise_eval.proofs.RowSteps.{no_controller, controller_is}
use Rattle.premise_eval.proofs.premises.controller.Goals as goal

pub returns-in-Some : goal.returns-in-Some
returns-in-Some c = record {
  value = λ only s row made among is_row.
      c.value_in.ensures.value
      ∙ controller_is c.args.rules.now only s c.args.values.now row c.deref.result.now c.pairs_of.result.now c.in-Some.pair.now
      made among (c.pairs_of.ensures.each row is_row) (c.deref.ensures.value ∙ ap (λ (k : Kept). k.values) c.values.view_is) c.in-Some.ensures.value;
}

pub returns-in-None : goal.returns-in-None
returns-in-None c = record {
  value = λ only s row made among is_row.
      no_controller c.args.rules.now s c.args.values.now.columns row.conditions c.pairs_of.result.now (c.pairs_of.ensures.each row is_row) c.in-None.ensures.value;
}
