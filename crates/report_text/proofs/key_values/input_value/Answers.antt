use Rattle.std.proofs.Common.{◌∙◌, ap, sym, slice_get}
use Rattle.report_text.proofs.Halved.{input_is}
use Rattle.report_text.proofs.key_values.input_value.Goals as goal

pub returns-in-Some : goal.returns-in-Some
returns-in-Some c =
    c.input_at.ensures
    ∙ input_is c.args.rules.now c.args.state.now c.args.key.now c.in-Some.at (c.requires.ordered c.if-ordered.true)
    (ap (λ l. slice_get l c.in-Some.at) (sym c.as_slice.ensures.value) ∙ c.in-Some.ensures)
