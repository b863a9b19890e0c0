use Rattle.std.proofs.Common.{◌∙◌, ap, sym, slice_get}
use Rattle.report_text.proofs.Halved.{state_is}
use Rattle.report_text.proofs.key_values.link_state.Goals as goal

pub returns-in-Some : goal.returns-in-Some
returns-in-Some c =
    c.state_at.ensures
    ∙ state_is c.args.rules.now c.args.state.now c.args.link c.in-Some.at (c.requires.ordered c.if-ordered.true)
    (ap (λ l. slice_get l c.in-Some.at) (sym c.as_slice.ensures.value) ∙ c.in-Some.ensures)
