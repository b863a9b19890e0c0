use Rattle.std.proofs.Common.{◌==◌, ◌∙◌, position, refl, sym, ap, Some}
use Rattle.std.specs.Prelude.{slice_get}
use Rattle.state_checker.proofs.LinkSteps.{state_is, no_state}
use Rattle.state_checker.proofs.links.link_state.Goals as goal

pub returns-in-Some : goal.returns-in-Some
returns-in-Some c = record {
  value = ap Some c.index-as_slice-at.is ∙ state_is c.args.rules.now c.args.state.now c.args.link c.in-Some.at c.as_slice-in-Some.result.now c.index-as_slice-at.result c.requires.formed c.requires.fits (ap (λ l. slice_get l c.in-Some.at) (sym c.as_slice.ensures.value) ∙ c.in-Some.ensures.found) c.as_slice-in-Some.ensures.value;
}

pub returns-in-None : goal.returns-in-None
returns-in-None c = record {
  value = no_state c.args.rules.now c.args.state.now c.args.link (ap (λ l. position (λ other. c.args.link == other) l) (sym c.as_slice.ensures.value) ∙ c.in-None.ensures.absent refl);
}
