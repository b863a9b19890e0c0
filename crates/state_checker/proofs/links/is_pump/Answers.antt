use Rattle.std.proofs.Common.{◌==◌, ◌∙◌, position, false, refl, sym, ap}
use Rattle.std.specs.Prelude.{slice_get}
use Rattle.state_checker.proofs.LinkSteps.{pump_is, no_pump}
use Rattle.state_checker.proofs.links.is_pump.Goals as goal

pub returns-in-Some : goal.returns-in-Some
returns-in-Some c = record {
  value = pump_is c.args.rules.now c.args.link c.in-Some.at c.as_slice-in-Some.result.now false c.requires.formed (ap (λ l. slice_get l c.in-Some.at) (sym c.as_slice.ensures.value) ∙ c.in-Some.ensures.found) c.as_slice-in-Some.ensures.value;
}

pub returns-in-None : goal.returns-in-None
returns-in-None c = record { value = no_pump c.args.rules.now c.args.link (ap (λ l. position (λ other. c.args.link == other) l) (sym c.as_slice.ensures.value) ∙ c.in-None.ensures.absent refl) }
