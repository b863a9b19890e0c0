-- Where the values of the columns of tables stand.
use Rattle.std.specs.Prelude.{◌≡◌, ℕ, ◌<◌, false, Option, Some, None, List, slice_get}
use Rattle.std.specs.List.{AllZip}
use Rattle.rule_types.specs.declared.condition.Condition.{Condition}
use Rattle.rule_types.specs.declared.condition.Side.{Side}
use Rattle.rule_types.specs.declared.rule.Rule.{Rule}
use Rattle.rule_types.specs.declared.rules.Rules.{Rules}
use Rattle.premise_eval.specs.declared.column.Column.{Column}
use Rattle.premise_eval.specs.Columns.{IsColumn}
use Rattle.table_plan.specs.declared.plan_column.PlanColumn.{PlanColumn}
use Rattle.table_run.specs.Sides.{is_left_side}
use Rattle.table_run.specs.declared.sources.ConditionAt.{ConditionAt}

-- the condition at a place has a side on its left
pub record HasLeftAt (conditions : List Condition) (number : ℕ) (side : Side) : Type 0 where
  pub condition : Condition
  pub is : slice_get conditions number ≡ Some condition
  pub left : condition.left ≡ side

-- the same of the condition at a place of the rule at a place
pub record HasLeft (x : Rules) (at : ConditionAt) (side : Side) : Type 0 where
  pub row : Rule
  pub of_rules : slice_get x.rules at.rule ≡ Some row
  pub of_row : HasLeftAt row.conditions at.number side

-- no condition of a rule before a place has a side on its left
unfoldable pub NoLeftBefore : List Condition → ℕ → Side → Type 0
NoLeftBefore conditions to side =
    (j : ℕ) (c : Condition) → j < to → slice_get conditions j ≡ Some c → c.left ≡ side → ⊥

-- no condition of the rules before a place has a side on its left
unfoldable pub NoLeftIn : List Rule → ℕ → Side → Type 0
NoLeftIn rules to side =
    (k : ℕ) (row : Rule) (j : ℕ) (c : Condition) → k < to → slice_get rules k ≡ Some row
    → slice_get row.conditions j ≡ Some c → c.left ≡ side → ⊥

-- a condition has a side on its left, and there is none where no condition has it
abbrev pub IsConditionOf : Rules → Side → Option ConditionAt → Type 0
IsConditionOf x side (Some at) = HasLeft x at side
IsConditionOf x side None = is_left_side x side ≡ false

-- the column of a number among those of values has a side that a condition has on its left
pub record IsLeftColumn (x : Rules) (among : List Column) (at : ℕ) (side : Side) : Type 0 where
  pub condition : ConditionAt
  pub left : HasLeft x condition side
  pub column : IsColumn among at side

-- A column of values is the source of a column of a plan: it has its side, which a condition has on
-- its left. There is none where no condition has that.
abbrev pub IsSource : Rules → List Column → Side → Option ℕ → Type 0
IsSource x among side (Some at) = IsLeftColumn x among at side
IsSource x among side None = is_left_side x side ≡ false

unfoldable pub AreSources : Rules → List Column → List PlanColumn → List (Option ℕ) → Type 0
AreSources x among columns sources =
    AllZip (λ column source. IsSource x among column.side source) columns sources
