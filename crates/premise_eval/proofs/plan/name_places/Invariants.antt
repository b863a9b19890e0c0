use Rattle.std.proofs.Common.{take}
use Rattle.std.specs.List.{AllZip}
use Rattle.premise_eval.specs.Places.{KindPlaced}
use Rattle.premise_eval.proofs.plan.name_places.Given as goal

abbrev pub invariant-loop-named : goal.invariant-loop-named
invariant-loop-named l =
    AllZip (λ named place. KindPlaced l.rules named.stands_for place) (take l.named-index l.rules.names) l.places.items
