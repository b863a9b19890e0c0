use Rattle.std.proofs.Common.{◌∙◌, false}
use Rattle.action_values.proofs.LinkSteps.{target_is, rate_is, pump_is}
use Rattle.action_values.proofs.link.facts_at.Goals as goal

pub returns : goal.returns
returns c = record {
  is = λ link is. record {
    target = target_is c.args.rules.now c.args.state.now link c.args.place c.as_slice.result.now c.index-as_slice-place.result c.requires.formed c.requires.fits (c.requires.placed ∙ is) c.as_slice.ensures.value;
    rate = c.index-as_slice-place-2.is ∙ rate_is c.args.rules.now link c.args.place c.as_slice-2.result.now c.index-as_slice-place-2.result c.requires.formed (c.requires.placed ∙ is) c.as_slice-2.ensures.value;
    pump = pump_is c.args.rules.now link c.args.at c.as_slice-3.result.now false c.requires.formed is c.as_slice-3.ensures.value;
  };
}
