-- What the first tables of a plan order.
use Rattle.std.specs.Prelude.{◌≡◌, ℕ, ◌<◌, Bool, Option, Some, List, slice_get}
use Rattle.rule_types.specs.declared.action.ActionAt.{ActionAt}
use Rattle.table_plan.specs.Plan.{Plan, first_by}

-- before a place the pairs are those that tables of a plan order
unfoldable pub FirstsTo :
    Plan → List (Option ℕ) → (ActionAt → ℕ → Bool) → ℕ → List (Option ActionAt) → Type 0
FirstsTo plan pieces truth to firsts =
    (table : ℕ) (first : Option ActionAt) → table < to → slice_get firsts table ≡ Some first
    → first ≡ first_by plan table pieces truth
