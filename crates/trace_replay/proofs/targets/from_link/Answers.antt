use Rattle.std.proofs.Common.{sym, subst, ap, ◌∙◌}
use Rattle.std.proofs.lemmas.List.{take_rest}
use Rattle.std.specs.List.Sorted.{IsStrictlyIncreasing}
use Rattle.rule_meaning.specs.History.{new_target}
use Rattle.trace_replay.proofs.LinkSteps.{links_of, rising_from}
use Rattle.trace_replay.proofs.targets.from_link.Goals as goal

pub returns-then-link-order-clause-in_order : goal.returns-then-link-order-clause-in_order
returns-then-link-order-clause-in_order c =
    subst (λ list. IsStrictlyIncreasing (links_of list)) (sym (take_rest c.args.orders.now c.loop-index.index))
    (rising_from c.args.orders.now c.loop-index.index c.requires.in_order)

pub returns-then-link-order-clause-same : goal.returns-then-link-order-clause-same
returns-then-link-order-clause-same c = λ other old past.
    ap (λ list. new_target list other old) (take_rest c.args.orders.now c.loop-index.index)
    ∙ c.loop-index.invariant other old past
