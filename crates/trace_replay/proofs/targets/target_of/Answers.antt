use Rattle.std.proofs.Common.{◌∙◌, sym, ap}
use Rattle.std.specs.Option.{option_copied}
use Rattle.trace_replay.proofs.LinkSteps.{target_first}
use Rattle.trace_replay.proofs.targets.target_of.Goals as goal

pub returns-in-Some : goal.returns-in-Some
returns-in-Some c =
    c.value_or.ensures
    ∙ target_first c.args.orders.now c.in-Some.order.now c.args.link c.args.old.now
    (sym c.first.ensures.value ∙ ap option_copied c.in-Some.is) c.requires.in_order c.requires.from_link
