use Rattle.std.proofs.Common.{◌∙◌, position, refl, sym, ap}
use Rattle.std.specs.Prelude.{slice_get, bytes_eq}
use Rattle.rule_types.specs.KeyOrder.{key_place}
use Rattle.state_checker.proofs.KeySteps.{input_is, no_input}
use Rattle.state_checker.proofs.values.input_value.Goals as goal

pub returns-in-Some : goal.returns-in-Some
returns-in-Some c = record {
  value = c.index-as_slice-at.is ∙ input_is c.args.rules.now c.args.state.now c.args.key.now c.in-Some.at c.as_slice-in-Some.result.now c.index-as_slice-at.result c.requires.formed c.requires.fits (ap (λ l. slice_get l c.in-Some.at) (sym c.as_slice.ensures.value) ∙ c.in-Some.ensures.found) c.as_slice-in-Some.ensures.value;
}

pub returns-in-None : goal.returns-in-None
returns-in-None c = record {
  value = no_input c.args.rules.now c.args.state.now c.args.key.now (ap (λ l. position (λ other. bytes_eq (key_place c.args.key.now) (key_place other)) l) (sym c.as_slice.ensures.value) ∙ c.in-None.ensures.absent refl);
}
