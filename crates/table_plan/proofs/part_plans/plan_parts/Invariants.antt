use Rattle.std.proofs.Common.{◌≡◌, ℕ, Bool, Option, take}
use Rattle.std.specs.List.{list_any}
use Rattle.exact_fraction.specs.Number.{Rational}
use Rattle.rule_types.specs.declared.condition.Side.{Side}
use Rattle.table_plan.specs.Plan.{pieces_of}
use Rattle.table_plan.specs.PlanRows.{part_by}
use Rattle.table_plan.specs.Told.{part_told}
use Rattle.table_plan.proofs.part_plans.plan_parts.Given as goal

abbrev pub invariant-loop-part : goal.invariant-loop-part
invariant-loop-part l =
    (value : Side → Option Rational) (truth : ℕ → Bool) → list_any (part_by (pieces_of l.columns value) truth) l.plan.items ≡ list_any (part_told value truth) (take l.part-index l.part-items)
