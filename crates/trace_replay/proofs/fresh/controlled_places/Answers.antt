use Rattle.std.proofs.Common.{◌∙◌, sym, ap}
use Rattle.std.specs.Prelude.{slice_get}
use Rattle.trace_replay.proofs.FirstSteps.{places_more, places_all, tracked_link}
use Rattle.trace_replay.proofs.fresh.controlled_places.Goals as goal

pub place_among-place-requires : goal.place_among-place-requires
place_among-place-requires c = record {
  among = tracked_link c.args.rules.now c.as_slice-link-items.result.now c.as_slice.result.now c.loop-link.link-index c.requires.well_formed c.as_slice-link-items.ensures.value c.as_slice.ensures.value c.loop-link-test.true;
}

pub loop-link-preserved : goal.loop-link-preserved
loop-link-preserved c =
    places_more c.args.rules.now c.as_slice-link-items.result.now c.loop-link.places.items c.push.new.self.items c.loop-link.link-index c.place_among-place.result
    c.as_slice-link-items.ensures.value c.loop-link-test.true c.loop-link.invariant
    (ap (λ l. slice_get l c.place_among-place.result) (sym c.as_slice.ensures.value) ∙ c.place_among-place.ensures.place) c.in_ok-push.ensures.items

pub returns : goal.returns
returns c = record {
  places = places_all c.args.rules.now c.as_slice-link-items.result.now c.loop-link.places.items c.loop-link.link-index c.as_slice-link-items.ensures.value c.loop-link-test.false c.loop-link.invariant;
}
