-- Columns while they are collected from tables.
use Rattle.std.specs.Prelude.{◌≡◌, ℕ, suc, if◌then◌else◌, IsTrue, All}
use Rattle.std.specs.Prelude.{Option, Some, None, option_map, List, [], ◌∷◌, ◌++◌, map}
use Rattle.std.specs.BTreeMap.{get}
use Rattle.std.specs.List.{Contains}
use Rattle.std.specs.Option.{is_some}
use Rattle.std.specs.Ordering.{nat_cmp}
use Rattle.exact_fraction.specs.Number.{Rational}
use Rattle.interval_sets.specs.declared.interval.Bound.{Bound}
use Rattle.interval_sets.specs.declared.interval.Bound.TheVariants as end
use Rattle.rule_types.specs.declared.condition.Side.{Side}
use Rattle.rule_types.specs.declared.condition.Side.TheVariants as side
use Rattle.rule_types.specs.KeyOrder.{key_cmp}
use Rattle.table_compiler.specs.Parts.{same_column}
use Rattle.table_plan.specs.declared.column_drafts.ColumnDraft.{ColumnDraft}
use Rattle.table_plan.specs.declared.column_ends.ColumnEnd.{ColumnEnd}
use Rattle.table_plan.specs.declared.column_places.ColumnPlaces.{ColumnPlaces}
use Rattle.table_plan.specs.declared.plan_column.PlanColumn.{PlanColumn}
use Rattle.table_plan.specs.Columns.{IsOnce, IsEndOn}
use Rattle.table_plan.specs.Pieces.{IsCut, IsCutEnd}

-- ---- places of columns

-- the place of a column among columns
unfoldable pub place_in : List Side → Side → Option ℕ
place_in [] column = None
place_in (first ∷ more) column =
    if same_column first column then Some 0 else option_map suc (place_in more column)

-- the place of a column in the maps
abbrev pub found : ColumnPlaces → Side → Option ℕ
found places (side.Key key) = get key_cmp places.keys key
found places (side.Expr name) = get nat_cmp places.names name

-- the maps have the place of each column, and each is listed once
pub record Places (places : ColumnPlaces) (columns : List Side) : Type 0 where
  pub at : (column : Side) → found places column ≡ place_in columns column
  pub once : IsOnce columns

-- ---- columns with their ends

abbrev pub draft_sides : List ColumnDraft → List Side
draft_sides drafts = map (λ draft. draft.side) drafts

-- the ends that are kept for a column
unfoldable pub ends_on : List ColumnDraft → Side → List Rational
ends_on [] column = []
ends_on (first ∷ more) column =
    if same_column first.side column then first.ends else ends_on more column

-- a number is among others, where there is one
abbrev pub IsAmong : List Rational → Bound → Type 0
IsAmong numbers end.NoBound = Unit {0}
IsAmong numbers (end.Bound p left_out) = Contains numbers p

-- an end is kept: its column has a place, and the number, if it is one, is kept for the column
pub record IsKept (drafts : List ColumnDraft) (e : ColumnEnd) : Type 0 where
  pub placed : IsTrue (is_some (place_in (draft_sides drafts) e.side))
  pub among : IsAmong (ends_on drafts e.side) e.bound

-- a draft is one of ends: some end is of its column, and what it keeps are ends of it
pub record IsDraftOf (ends : List ColumnEnd) (draft : ColumnDraft) : Type 0 where
  pub read : Contains (map (λ e. e.side) ends) draft.side
  pub from : All (IsEndOn ends draft.side) draft.ends

-- a draft with one more end
abbrev pub with_end : ColumnDraft → Bound → ColumnDraft
with_end draft end.NoBound = draft
with_end draft (end.Bound p left_out) =
    record { side = draft.side; ends = draft.ends ++ p ∷ [] }

-- ---- columns with their cuts

abbrev pub column_sides : List PlanColumn → List Side
column_sides columns = map (λ column. column.side) columns

-- the cuts of a column
unfoldable pub cuts_on : List PlanColumn → Side → List Rational
cuts_on [] column = []
cuts_on (first ∷ more) column =
    if same_column first.side column then first.cuts else cuts_on more column

-- an end is planned: its column has a place, and its number, if it is one, is a cut of the column
pub record IsPlanned (columns : List PlanColumn) (e : ColumnEnd) : Type 0 where
  pub placed : IsTrue (is_some (place_in (column_sides columns) e.side))
  pub cut : IsCutEnd (cuts_on columns e.side) e.bound

-- columns are made of drafts: each has its draft's side, and its cuts are the ends of the draft
abbrev pub AreMadeOf : List ColumnDraft → List PlanColumn → Type 0
AreMadeOf [] [] = Unit {0}
AreMadeOf [] (column ∷ columns) = ⊥
AreMadeOf (draft ∷ drafts) [] = ⊥
AreMadeOf (draft ∷ drafts) (column ∷ columns) =
    (column.side ≡ draft.side) × All (IsCut column.cuts) draft.ends
    × All (Contains draft.ends) column.cuts × AreMadeOf drafts columns
