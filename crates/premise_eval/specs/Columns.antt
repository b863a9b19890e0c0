-- The columns of the sides of conditions: each has one value at a state.
use Rattle.std.specs.Prelude.{◌≡◌, ℕ, Bool, IsTrue, Option, Some, List, slice_get, option_and_then}
use Rattle.std.specs.Prelude.{All, Contains, IsSomeAnd, length, ◌<◌, ◌⊎◌}
use Rattle.std.specs.List.{AllZip}
use Rattle.exact_fraction.specs.Number.{Rational}
use Rattle.rule_types.specs.declared.condition.Condition.{Condition}
use Rattle.rule_types.specs.declared.condition.Side.{Side}
use Rattle.rule_types.specs.declared.condition.Side.TheVariants as side
use Rattle.rule_types.specs.declared.condition.Right.{Right}
use Rattle.rule_types.specs.declared.condition.Right.TheVariants as right
use Rattle.rule_types.specs.declared.rule.Rule.{Rule}
use Rattle.rule_types.specs.declared.rules.Rules.{Rules}
use Rattle.rule_types.specs.declared.state.State.{State}
use Rattle.rule_meaning.specs.Condition.{left_value}
use Rattle.premise_eval.specs.declared.place.Place.{Place}
use Rattle.premise_eval.specs.declared.column.Column.{Column}
use Rattle.premise_eval.specs.declared.column.Pair.{Pair}
use Rattle.premise_eval.specs.Places.{IsPlaceOf}

-- the value in a column, if there is one
abbrev pub value_in : List (Option Rational) → ℕ → Option Rational
value_in values at = option_and_then (λ found. found) (slice_get values at)

-- a side stands in the column of a number
pub record IsColumn (columns : List Column) (at : ℕ) (side : Side) : Type 0 where
  pub column : Column
  pub is : slice_get columns at ≡ Some column
  pub of_side : column.side ≡ side

-- the place of a column whose side is a key
abbrev pub SidePlaced : Rules → Place → Side → Type 0
SidePlaced x place (side.Key key) = IsPlaceOf x key place
SidePlaced x place (side.Expr name) = Unit {0}

unfoldable pub ColumnsFit : Rules → List Column → Type 0
ColumnsFit x columns = All (λ column. SidePlaced x column.place column.side) columns

-- the column of a right side that is a key
abbrev pub RightPaired : List Column → ℕ → Right → Type 0
RightPaired columns at (right.Key key) = IsColumn columns at (side.Key key)
RightPaired columns at (right.Value q) = Unit {0}

-- the columns of the two sides of a condition
pub record IsPair (columns : List Column) (c : Condition) (pair : Pair) : Type 0 where
  pub left : IsColumn columns pair.left c.left
  pub right : RightPaired columns pair.right c.right

-- the columns of the conditions of one rule, and of all rules
unfoldable pub PairsFit : List Column → List Condition → List Pair → Type 0
PairsFit columns conditions pairs = AllZip (IsPair columns) conditions pairs

unfoldable pub AllPairsFit : List Column → List Rule → List (List Pair) → Type 0
AllPairsFit columns rules pairs =
    AllZip (λ rule row. PairsFit columns rule.conditions row) rules pairs

-- whether the value of a side is worked out, where a test says which names are
abbrev pub SideAsked : (ℕ → Bool) → Side → Type 0
SideAsked asks (side.Key key) = Unit {0}
SideAsked asks (side.Expr name) = IsTrue (asks name)

-- each column whose side is asked for has the value of its side at a state
unfoldable pub ColumnsMade :
    Rules → (ℕ → Bool) → State → List Column → List (Option Rational) → Type 0
ColumnsMade x asks s columns values =
    (at : ℕ) (column : Column) → slice_get columns at ≡ Some column → SideAsked asks column.side
    → slice_get values at ≡ Some (left_value x s column.side)

-- a rule of a number has a condition of a number
abbrev pub ConditionExists : Rules → ℕ → ℕ → Type 0
ConditionExists x rule number =
    IsSomeAnd (slice_get x.rules rule) (λ row. number < length row.conditions)

-- a key on the right of a condition is this side
abbrev pub IsRightSide : Side → Right → Type 0
IsRightSide given (right.Key key) = given ≡ side.Key key
IsRightSide given (right.Value q) = ⊥

-- a side stands in a condition of one of some of the rules
pub record IsSideOf (x : Rules) (only : List Rule) (side : Side) : Type 0 where
  pub rule : Rule
  pub among : Contains only rule
  pub of_rules : Contains x.rules rule
  pub condition : Condition
  pub of_rule : Contains rule.conditions condition
  pub is : (condition.left ≡ side) ⊎ IsRightSide side condition.right
