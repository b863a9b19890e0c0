-- What is kept of rules and of a state: the plan by which the sides of conditions are read, and
-- their values.
use Rattle.std.specs.Prelude.{◌≡◌, ℕ, ◌<◌, Bool, false, Option, List, length, get_or}
use Rattle.exact_fraction.specs.Number.{Rational}
use Rattle.rule_types.specs.declared.rule.Rule.{Rule}
use Rattle.rule_types.specs.declared.rules.Rules.{Rules}
use Rattle.rule_types.specs.declared.state.State.{State}
use Rattle.rule_meaning.specs.Condition.{hours_of_step}
use Rattle.rule_meaning.specs.Formula.{is_used}
use Rattle.clock_values.specs.Steps.{IsStepInHours}
use Rattle.premise_eval.specs.declared.place.Place.{Place}
use Rattle.premise_eval.specs.declared.column.Column.{Column}
use Rattle.premise_eval.specs.declared.column.Pair.{Pair}
use Rattle.premise_eval.specs.Places.{NamesPlaced}
use Rattle.premise_eval.specs.Columns.{ColumnsFit, AllPairsFit, ColumnsMade}

-- what is kept: the step of the last state in hours and the value of each column; and the plan, the
-- columns, the columns of each condition, the places of the names and which names are used
pub record Kept : Type 0 where
  pub hours : Rational
  pub values : List (Option Rational)
  pub columns : List Column
  pub pairs : List (List Pair)
  pub places : List Place
  pub used : List Bool

-- whether a name is marked
abbrev pub marked : List Bool → ℕ → Bool
marked marks at = get_or marks at false

-- of so many names those are marked that a test gives
unfoldable pub MarksAre : ℕ → List Bool → (ℕ → Bool) → Type 0
MarksAre count marks test = (at : ℕ) → at < count → marked marks at ≡ test at

-- the marked names are those that some of the rules use
abbrev pub MarksUsed : Rules → List Rule → List Bool → Type 0
MarksUsed x rules marks = MarksAre (length x.names) marks (is_used x rules)

-- what is kept is the plan of rules
pub record IsPlan (x : Rules) (kept : Kept) : Type 0 where
  pub hours : IsStepInHours kept.hours
  pub places : NamesPlaced x kept.places
  pub columns : ColumnsFit x kept.columns
  pub pairs : AllPairsFit kept.columns x.rules kept.pairs
  pub used : MarksUsed x x.rules kept.used
  pub each_name : length kept.used ≡ length x.names
  pub each_column : length kept.values ≡ length kept.columns

-- the values are those of a state, for the names that some of the rules use
pub record IsMade (x : Rules) (only : List Rule) (s : State) (kept : Kept) : Type 0 where
  pub hours : kept.hours ≡ hours_of_step s.step
  pub columns : ColumnsMade x (is_used x only) s kept.columns kept.values
