use Rattle.std.proofs.Common.{◌∙◌, ◌==◌, position, refl, sym, ap}
use Rattle.std.specs.Prelude.{slice_get}
use Rattle.state_checker.proofs.SettledSteps.{pair_is, no_pair}
use Rattle.state_checker.proofs.settled.settled_on.Goals as goal

pub returns-in-Some : goal.returns-in-Some
returns-in-Some c = record {
  value = λ pairs are. pair_is c.args.rules.now pairs c.args.firsts.now c.args.link c.in-Some.at c.pair_at.result (ap (λ l. slice_get l c.in-Some.at) (sym c.as_slice.ensures.value) ∙ c.in-Some.ensures.found) are c.pair_at.ensures.value;
}

pub returns-in-None : goal.returns-in-None
returns-in-None c = record {
  value = λ pairs are. no_pair c.args.rules.now pairs c.args.link c.requires.formed (ap (λ l. position (λ other. c.args.link == other) l) (sym c.as_slice.ensures.value) ∙ c.in-None.ensures.absent refl);
}
