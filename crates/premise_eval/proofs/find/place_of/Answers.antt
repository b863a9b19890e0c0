use Rattle.std.proofs.Common.{sym, subst}
use Rattle.premise_eval.specs.declared.place.Place.TheVariants.{Clock}
use Rattle.premise_eval.specs.Places.{IsPlaceOf}
use Rattle.premise_eval.proofs.PlaceSteps.{clock_is}
use Rattle.premise_eval.proofs.find.place_of.Goals as goal

pub returns-in-Clock : goal.returns-in-Clock
returns-in-Clock c = record {
  place =
      subst (λ given. IsPlaceOf c.args.rules.now given (Clock c.in-Clock.attribute)) (sym c.in-Clock.is)
      (clock_is c.args.rules.now c.in-Clock.attribute);
}
