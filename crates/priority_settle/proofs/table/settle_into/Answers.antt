use Rattle.std.proofs.Common.{◌∙◌, ap, Option, None, replicate}
use Rattle.rule_types.specs.declared.action.ActionAt.{ActionAt}
use Rattle.rule_types.proofs.PublicLaws.{opened-orders}
use Rattle.priority_settle.proofs.Entries.{none_settled}
use Rattle.priority_settle.proofs.table.settle_into.Goals as goal

pub loop-at-init : goal.loop-at-init
loop-at-init c =
    c.clear.ensures
    ∙ ap (λ n. replicate {A = Option ActionAt} n None) c.requires.each
    ∙ none_settled c.args.rules.now.rules c.args.rules.now.controlled

pub add_pair-requires-clause-rising : goal.add_pair-requires-clause-rising
add_pair-requires-clause-rising c =
    rw c.as_slice-links.ensures.value
    (opened-orders c.args.rules.now c.requires.in_order).controlled
