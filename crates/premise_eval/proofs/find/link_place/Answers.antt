use Rattle.std.proofs.Common.{◌==◌, ◌∙◌, position, refl, sym, ap}
use Rattle.std.specs.Prelude.{slice_get}
use Rattle.premise_eval.proofs.PlaceSteps.{link_is, link_absent}
use Rattle.premise_eval.proofs.find.link_place.Goals as goal

pub returns-in-Some : goal.returns-in-Some
returns-in-Some c = record {
  place =
      link_is c.args.rules.now c.args.object.now c.args.attribute.now c.in-Some.at c.requires.in_order c.requires.link_state
      (ap (λ l. slice_get l c.in-Some.at) (sym c.as_slice.ensures.value) ∙ c.in-Some.ensures.found);
}

pub returns-in-None : goal.returns-in-None
returns-in-None c = record {
  place =
      link_absent c.args.rules.now c.args.object.now c.args.attribute.now c.requires.link_state
      (ap (λ l. position (λ other. c.args.object.now.index == other) l) (sym c.as_slice.ensures.value) ∙ c.in-None.ensures.absent refl);
}
