use Rattle.rule_types.specs.declared.names.NameDef.{NameDef}
use Rattle.premise_eval.specs.declared.place.Place.{Place}
use Rattle.premise_eval.specs.Places.{KindPlaced}
use Rattle.premise_eval.proofs.Zips.{zip_more}
use Rattle.premise_eval.proofs.PlanSteps.{names_placed}
use Rattle.premise_eval.proofs.plan.name_places.Goals as goal

pub loop-named-preserved : goal.loop-named-preserved
loop-named-preserved c =
    zip_more (λ (named : NameDef) (place : Place). KindPlaced c.args.rules.now named.stands_for place) c.args.rules.now.names c.as_slice-named-items.result.now
    c.loop-named.places.items c.push.new.self.items c.loop-named.named-index c.named-item.result c.kind_place-place.result
    c.as_slice-named-items.ensures.value c.loop-named-test.true c.named-item.is c.in_ok-push.ensures.items c.loop-named.invariant c.kind_place-place.ensures.place

pub returns : goal.returns
returns c = record {
  places =
      names_placed c.args.rules.now c.as_slice-named-items.result.now c.loop-named.places.items c.loop-named.named-index
      c.as_slice-named-items.ensures.value c.loop-named-test.false c.loop-named.invariant;
}
