use Rattle.std.proofs.Common.{◌≡◌, ◌≤◌, true, ◌&&◌, length}
use Rattle.std.specs.List.{list_all, range_with_len}
use Rattle.rule_types.specs.declared.action.Branch.TheVariants.{Then, Otherwise}
use Rattle.verdict_meaning.specs.Shown.{branch_safe}
use Rattle.box_eval.specs.internal.Known.{known_of}
use Rattle.box_eval.proofs.limit.rules_safe.Given as goal

-- the branches of the rules so far are safe
abbrev pub invariant-loop-number : goal.invariant-loop-number
invariant-loop-number l =
    (list_all
    (λ number.
    branch_safe l.rules l.tables l.cell (known_of l.truths) l.limit.link l.limit.lo l.limit.hi
    number Then
    && branch_safe l.rules l.tables l.cell (known_of l.truths) l.limit.link l.limit.lo l.limit.hi
    number Otherwise) (range_with_len 0 l.number) ≡ true)
    × (l.number ≤ length l.rules.rules)
