-- What a reading by a plan of tables orders.
use Rattle.std.specs.Prelude.{◌≡◌, ℕ, Bool, ◌==◌, if◌then◌else◌, Option, Some, None, List, slice_get}
use Rattle.std.specs.Prelude.{option_and_then}
use Rattle.std.specs.List.{position}
use Rattle.exact_fraction.specs.Number.{Rational}
use Rattle.rule_types.specs.declared.action.ActionAt.{ActionAt}
use Rattle.rule_types.specs.declared.condition.Side.{Side}
use Rattle.rule_types.specs.declared.rules.Rules.{Rules}
use Rattle.rule_types.specs.declared.state.State.{State}
use Rattle.rule_meaning.specs.Condition.{left_value}
use Rattle.rule_meaning.specs.Reading.{Choice}
use Rattle.table_plan.specs.Plan.{Plan, pieces_of, first_by}
use Rattle.table_plan.specs.Told.{Told, told_at}
use Rattle.table_run.specs.Sides.{is_left_side}

-- the value of a side that stands on the left of a condition of the rules; no other one is read
unfoldable pub value_read : Rules → State → Side → Option Rational
value_read x s side = if is_left_side x side then left_value x s side else None

-- what a reading of rules at a state tells their tables
abbrev pub told_read : Rules → State → Told
told_read x s = record { value = value_read x s; truth = (told_at x s).truth }

-- what each link takes by a plan of tables, of which one is made for each controlled link, in link
-- order
abbrev pub planned_at : Rules → Plan → State → ℕ → Option ActionAt
planned_at x plan s place =
    first_by plan place (pieces_of plan.columns (value_read x s)) (told_at x s).truth

unfoldable pub planned : Rules → Plan → Choice
planned x plan s link =
    option_and_then (planned_at x plan s) (position (λ other. other == link) x.controlled)

-- the pairs are those that tables of a plan order by some pieces and conditions
unfoldable pub AreFirsts :
    Plan → List (Option ℕ) → (ActionAt → ℕ → Bool) → List (Option ActionAt) → Type 0
AreFirsts plan pieces truth firsts =
    (table : ℕ) (first : Option ActionAt) → slice_get firsts table ≡ Some first
    → first ≡ first_by plan table pieces truth
