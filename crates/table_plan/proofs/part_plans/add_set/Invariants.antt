use Rattle.std.proofs.Common.{◌≡◌, ◌||◌, ℕ, Bool, Option, List, take}
use Rattle.std.specs.Prelude.{option_map}
use Rattle.std.specs.List.{list_any}
use Rattle.exact_fraction.specs.Number.{Rational}
use Rattle.table_compiler.specs.Meaning.{is_in}
use Rattle.table_plan.specs.Pieces.{piece}
use Rattle.table_plan.specs.PlanRows.{part_by, piece_at}
use Rattle.table_plan.proofs.part_plans.add_set.Given as goal

abbrev pub invariant-loop-interval : goal.invariant-loop-interval
invariant-loop-interval l =
    (pieces : List (Option ℕ)) (truth : ℕ → Bool) (value : Option Rational) → piece_at pieces l.at ≡ option_map (piece l.column.cuts) value → list_any (part_by pieces truth) l.plan.items ≡ (list_any (part_by pieces truth) l.fn.plan.items || is_in (take l.interval-index l.set) value)
