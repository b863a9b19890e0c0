use Rattle.std.proofs.Common.{◌∙◌, Some, get_or, sym, ap, arith}
use Rattle.std.proofs.lemmas.Option.{slice_get-get_or}
use Rattle.rule_meaning.specs.Memories.{memory_of}
use Rattle.action_values.proofs.OrderSteps.{places_long, place_is, link_is, added_ok, added_stop}
use Rattle.action_values.proofs.order.add_pair.Goals as goal

pub bounds-places-i : goal.bounds-places-i
bounds-places-i c = omega (arith, c.requires.within, places_long c.args.rules.now c.args.places.now c.requires.places)

pub facts_at-facts-requires-clause-placed : goal.facts_at-facts-requires-clause-placed
facts_at-facts-requires-clause-placed c = place_is c.args.rules.now c.args.places.now c.args.i c.requires.places c.requires.within

pub order_of-requires-clause-link : goal.order_of-requires-clause-link
order_of-requires-clause-link c =
    c.facts_at-facts.ensures.is (get_or c.as_slice.result.now c.args.i 0)
    (slice_get-get_or c.args.rules.now.controlled c.args.i 0 c.requires.within
    ∙ ap (λ l. Some (get_or l c.args.i 0)) (sym c.as_slice.ensures.value))

pub returns-in-Ok-clause-added : goal.returns-in-Ok-clause-added
returns-in-Ok-clause-added c = λ link later is.
    added_ok c.args.rules.now c.args.tables.now c.args.state.now (memory_of c.args.before.now) (get_or c.as_slice.result.now c.args.i 0) link c.args.at.now c.in-Ok.order
    c.args.orders.now.items c.add-in-Ok.new.orders.items later
    (link_is c.args.rules.now c.args.i link c.as_slice.result.now c.requires.within c.as_slice.ensures.value is)
    c.in-Ok.ensures.value c.add-in-Ok.ensures.items

pub returns-in-Some-clause-added : goal.returns-in-Some-clause-added
returns-in-Some-clause-added c = λ link later is.
    added_ok c.args.rules.now c.args.tables.now c.args.state.now (memory_of c.args.before.now) (get_or c.as_slice.result.now c.args.i 0) link c.args.at.now c.in-Some.order
    c.args.orders.now.items c.add.new.orders.items later
    (link_is c.args.rules.now c.args.i link c.as_slice.result.now c.requires.within c.as_slice.ensures.value is)
    (c.in-Some.ensures.value c.args.tables.now c.args.state.now (memory_of c.args.before.now)) c.add.ensures.items

pub returns-in-Err-clause-added : goal.returns-in-Err-clause-added
returns-in-Err-clause-added c = λ link later is.
    added_stop c.args.rules.now c.args.tables.now c.args.state.now (memory_of c.args.before.now) (get_or c.as_slice.result.now c.args.i 0) link c.args.at.now c.in-Err.stop
    c.args.orders.now.items later
    (link_is c.args.rules.now c.args.i link c.as_slice.result.now c.requires.within c.as_slice.ensures.value is)
    c.in-Err.ensures.value
