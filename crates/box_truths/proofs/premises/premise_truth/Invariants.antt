use Rattle.std.proofs.Common.{◌≡◌, length}
use Rattle.std.specs.Prelude.{All}
use Rattle.rule_types.specs.WellFormed.{ConditionFits}
use Rattle.verdict_meaning.specs.Premises.{both_truth, premise_truth_by}
use Rattle.verdict_meaning.specs.Truths.{condition_truth}
use Rattle.box_truths.specs.internal.Groups.{rest_truth}
use Rattle.box_truths.proofs.premises.premise_truth.Given as goal

-- what is known of the closed groups and of those from the open one on is what is known of all
abbrev pub invariant-conditions : goal.invariant-conditions
invariant-conditions l =
    (both_truth l.total
    (rest_truth (condition_truth l.fn.names l.fn.times.start l.fn.times.step l.fn.cell) l.group l.rest)
    ≡ premise_truth_by
    (condition_truth l.fn.names l.fn.times.start l.fn.times.step l.fn.cell) l.fn.conditions)
    × All (ConditionFits l.fn.names) l.rest

abbrev pub decreases-conditions : goal.decreases-conditions
decreases-conditions l = length l.rest
