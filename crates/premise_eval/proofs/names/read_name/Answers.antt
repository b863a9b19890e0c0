use Rattle.std.proofs.Common.{arith}
use Rattle.premise_eval.specs.Kept.{marked}
use Rattle.premise_eval.proofs.NameSteps.{skipped, asked_ok, asked_stop, read_is, held_skip, held_set, places_long}
use Rattle.premise_eval.proofs.names.read_name.Goals as goal

pub returns-then-not-asks-at-clause-stop : goal.returns-then-not-asks-at-clause-stop
returns-then-not-asks-at-clause-stop c =
    skipped c.args.rules.now (marked c.args.asks.now) c.args.state.now c.args.at c.requires.within c.if-not-asks-at.true

pub returns-then-not-asks-at-clause-held : goal.returns-then-not-asks-at-clause-held
returns-then-not-asks-at-clause-held c =
    held_skip c.args.rules.now c.args.state.now (marked c.args.asks.now) c.args.at c.args.names.now c.if-not-asks-at.true

pub bounds-places-at : goal.bounds-places-at
bounds-places-at c = omega (arith, places_long c.args.rules.now c.args.places.now c.requires.placed)

pub returns-in-Ok-clause-stop : goal.returns-in-Ok-clause-stop
returns-in-Ok-clause-stop c =
    asked_ok c.args.rules.now (marked c.args.asks.now) c.args.state.now c.args.at c.index-as_slice-at.result c.in-Ok.found c.requires.within c.if-not-asks-at.false
    (read_is c.args.rules.now c.args.state.now c.args.places.now c.requires.placed c.requires.sizes c.args.at c.index-as_slice-at.result _ _ c.as_slice.result.now
    c.requires.within c.as_slice.ensures.value c.index-as_slice-at.is c.in-Ok.ensures.value)

pub returns-in-Ok-clause-held : goal.returns-in-Ok-clause-held
returns-in-Ok-clause-held c =
    held_set c.args.rules.now c.args.state.now (marked c.args.asks.now) c.args.at c.index-as_slice-at.result c.args.names.now c.in-Ok.found (omega arith)
    (read_is c.args.rules.now c.args.state.now c.args.places.now c.requires.placed c.requires.sizes c.args.at c.index-as_slice-at.result _ _ c.as_slice.result.now
    c.requires.within c.as_slice.ensures.value c.index-as_slice-at.is c.in-Ok.ensures.value)

pub returns-in-Err-clause-stop : goal.returns-in-Err-clause-stop
returns-in-Err-clause-stop c =
    asked_stop c.args.rules.now (marked c.args.asks.now) c.args.state.now c.args.at c.index-as_slice-at.result c.in-Err.cause c.requires.within c.if-not-asks-at.false
    (read_is c.args.rules.now c.args.state.now c.args.places.now c.requires.placed c.requires.sizes c.args.at c.index-as_slice-at.result _ _ c.as_slice.result.now
    c.requires.within c.as_slice.ensures.value c.index-as_slice-at.is c.in-Err.ensures.value)
