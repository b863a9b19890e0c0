use Rattle.std.proofs.Common.{◌≡◌, ℕ, Bool, Option, take}
use Rattle.exact_fraction.specs.Number.{Rational}
use Rattle.rule_types.specs.declared.condition.Side.{Side}
use Rattle.table_plan.specs.Plan.{pieces_of}
use Rattle.table_plan.specs.PlanRows.{all_by}
use Rattle.table_plan.specs.Told.{all_told}
use Rattle.table_plan.proofs.part_plans.plan_clauses.Given as goal

abbrev pub invariant-loop-clause : goal.invariant-loop-clause
invariant-loop-clause l =
    (value : Side → Option Rational) (truth : ℕ → Bool) → all_by (pieces_of l.columns value) truth l.plan.items ≡ all_told value truth (take l.clause-index l.clause-items)
