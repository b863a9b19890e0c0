-- What columns read of a state and of the values of names, and conditions of columns.
use Rattle.std.specs.Prelude.{◌≡◌, ℕ, ◌<◌, Bool, Option, Some, List, slice_get}
use Rattle.std.specs.List.{AllZip}
use Rattle.exact_fraction.specs.Number.{Rational}
use Rattle.rule_types.specs.declared.condition.Condition.{Condition}
use Rattle.rule_types.specs.declared.condition.Side.{Side}
use Rattle.rule_types.specs.declared.condition.Side.TheVariants as side
use Rattle.rule_types.specs.declared.condition.Right.{Right}
use Rattle.rule_types.specs.declared.condition.Right.TheVariants as right
use Rattle.rule_types.specs.declared.state.State.{State}
use Rattle.rule_meaning.specs.Condition.{both_meet}
use Rattle.premise_eval.specs.declared.place.Place.{Place}
use Rattle.premise_eval.specs.declared.column.Column.{Column}
use Rattle.premise_eval.specs.declared.column.Pair.{Pair}
use Rattle.premise_eval.specs.Places.{place_value}
use Rattle.premise_eval.specs.Columns.{value_in}

abbrev pub side_read : State → List (Option Rational) → Place → Side → Option Rational
side_read s names place (side.Key key) = place_value s place
side_read s names place (side.Expr name) = value_in names name

unfoldable pub column_read : State → List (Option Rational) → Column → Option Rational
column_read s names column = side_read s names column.place column.side

-- the value on the right of a condition
abbrev pub right_in : List (Option Rational) → ℕ → Right → Option Rational
right_in values at (right.Key key) = value_in values at
right_in values at (right.Value q) = Some q

-- whether a condition holds, where its two sides have these columns
unfoldable pub holds_in : Rational → List (Option Rational) → Pair → Condition → Bool
holds_in hours values pair c =
    both_meet c hours (value_in values pair.left) (right_in values pair.right c.right)

-- each condition holds as `truth` says
unfoldable pub TruthIn :
    Rational → List (Option Rational) → (Condition → Bool) → List Condition → List Pair → Type 0
TruthIn hours values truth conditions pairs =
    AllZip (λ c pair. holds_in hours values pair c ≡ truth c) conditions pairs

-- a later list of columns has all columns of an earlier one at their numbers
unfoldable pub Extends : List Column → List Column → Type 0
Extends columns more =
    (at : ℕ) (column : Column) → slice_get columns at ≡ Some column
    → slice_get more at ≡ Some column

-- none of the columns before a place has a side
unfoldable pub NoColumn : List Column → ℕ → Side → Type 0
NoColumn columns to given =
    (at : ℕ) (column : Column) → at < to → slice_get columns at ≡ Some column
    → column.side ≡ given → ⊥
