use Rattle.std.proofs.Common.{◌∙◌, ap, subst, refl}
use Rattle.premise_eval.specs.Kept.{Kept}
use Rattle.premise_eval.proofs.RowSteps.{side_is, no_side}
use Rattle.premise_eval.proofs.premises.side_value.Goals as goal

pub returns-in-Some : goal.returns-in-Some
returns-in-Some c = record {
  value = λ only s made of_rules.
      c.value_in.ensures.value
      ∙ side_is c.args.rules.now only s c.args.values.now c.deref-in-Some.result.now c.in-Some.at c.args.side.now made
      (c.deref-in-Some.ensures.value ∙ ap (λ (k : Kept). k.values) c.values.view_is)
      (subst (λ l. Rattle.premise_eval.specs.Columns.IsColumn l c.in-Some.at c.args.side.now) (c.deref.ensures.value ∙ ap (λ (k : Kept). k.columns) c.values.view_is) c.in-Some.ensures.found) of_rules;
}

pub returns-in-None : goal.returns-in-None
returns-in-None c = record {
  value = λ only s made of_rules.
      absurd (no_side c.args.rules.now only c.args.values.now c.args.side.now c.deref.result.now _ c.requires.plan
      (c.deref.ensures.value ∙ ap (λ (k : Kept). k.columns) c.values.view_is) refl (c.in-None.ensures.absent refl) of_rules);
}
