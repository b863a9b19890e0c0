use Rattle.std.proofs.Common.{◌∙◌, position, refl, sym, ap}
use Rattle.std.specs.Prelude.{slice_get, bytes_eq}
use Rattle.rule_types.specs.KeyOrder.{key_place}
use Rattle.premise_eval.proofs.PlaceSteps.{input_is, input_absent}
use Rattle.premise_eval.proofs.find.input_place.Goals as goal

pub returns-in-Some : goal.returns-in-Some
returns-in-Some c = record {
  place =
      input_is c.args.rules.now c.args.key.now c.in-Some.at c.requires.in_order c.requires.input
      (ap (λ l. slice_get l c.in-Some.at) (sym c.as_slice.ensures.value) ∙ c.in-Some.ensures.found);
}

pub returns-in-None : goal.returns-in-None
returns-in-None c = record {
  place =
      input_absent c.args.rules.now c.args.key.now c.requires.input
      (ap (λ l. position (λ other. bytes_eq (key_place c.args.key.now) (key_place other)) l) (sym c.as_slice.ensures.value) ∙ c.in-None.ensures.absent refl);
}
