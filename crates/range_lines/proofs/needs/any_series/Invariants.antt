use Rattle.std.proofs.Common.{◌≡◌, drop}
use Rattle.std.specs.List.{list_any}
use Rattle.range_lines.specs.Needs.{is_series}
use Rattle.range_lines.proofs.needs.any_series.Given as goal

abbrev pub invariant-loop-action : goal.invariant-loop-action
invariant-loop-action l =
    list_any (λ action. is_series action.what) (drop l.action-index l.actions)
    ≡ list_any (λ action. is_series action.what) l.actions
