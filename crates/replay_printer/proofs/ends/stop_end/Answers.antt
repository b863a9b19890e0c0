use Rattle.std.proofs.Common.{◌≡◌, sym, subst}
use Rattle.rule_types.specs.declared.stop.StopCause.TheVariants.{Overflow}
use Rattle.replay_printer.specs.internal.Ends.{EndsWith, CauseAt}
use Rattle.replay_printer.proofs.Messages.{action_line}
use Rattle.replay_printer.proofs.ends.stop_end.Goals as goal

pub returns-in-Action : goal.returns-in-Action
returns-in-Action c =
    let cause : c.args.stop.now.cause ≡ Overflow = subst (λ place. CauseAt place c.args.stop.now.cause) c.in-Action.is c.requires.reading in
    subst (λ said. EndsWith c.action_end.result said) (sym (action_line c.args.names.now c.args.line c.args.stop.now c.in-Action.at c.in-Action.is cause))
    c.action_end.ensures
