use Rattle.std.proofs.Common.{◌≡◌, [], IfOk, ap, sym, subst, ◌∙◌}
use Rattle.report_lines.specs.internal.Views.{reading_now, values_go_on}
use Rattle.report_lines.proofs.StateSteps.{state_is}
use Rattle.report_lines.proofs.state.read_state.Goals as goal

pub returns-in-Ok : goal.returns-in-Ok
returns-in-Ok c =
    let body = c.args.body in
    subst (λ due. IfOk c.state_with.result (λ read. reading_now read ≡ due))
    (state_is body.lines.now body.rules.now body.objects.now body.grid.now c.args.at
    c.in-Ok.read.place c.in-Ok.read.setting c.in-Ok.read.values
    (ap (values_go_on body.lines.now body.objects.now []) (sym c.in-Ok.is) ∙ c.in_ok-read.ensures))
    c.state_with.ensures
