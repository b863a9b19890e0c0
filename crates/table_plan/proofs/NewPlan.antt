-- A plan that is made of tables.
use Rattle.std.proofs.Common.{ℕ, ◌<◌, Option, Some, None, is_some, [], length, get_or, refl, arith, IsTrue, ◌≡◌, List, sym, ap, subst, ◌∙◌, All}
use Rattle.std.proofs.lemmas.Bool.{false≢true}
use Rattle.std.proofs.lemmas.List.{length-map}
use Rattle.std.proofs.lemmas.List.Elements.{All-weaker, Contains-get_or}
use Rattle.std.proofs.lemmas.Option.{slice_get-get_or}
use Rattle.exact_fraction.specs.Number.{Rational}
use Rattle.rule_types.specs.declared.condition.Side.{Side}
use Rattle.table_compiler.specs.declared.table.LinkTable.{LinkTable}
use Rattle.table_plan.specs.declared.column_drafts.ColumnDraft.{ColumnDraft}
use Rattle.table_plan.specs.declared.column_ends.ColumnEnd.{ColumnEnd}
use Rattle.table_plan.specs.declared.column_places.ColumnPlaces.{ColumnPlaces}
use Rattle.table_plan.specs.declared.plan_column.PlanColumn.{PlanColumn}
use Rattle.table_plan.specs.declared.plan_rows.PlanTable.{PlanTable}
use Rattle.table_plan.specs.Columns.{IsOnce, HasColumn, AreColumnsOf}
use Rattle.table_plan.specs.Pieces.{IsCutEnd}
use Rattle.table_plan.specs.Plan.{IsPlanOf}
use Rattle.table_plan.specs.internal.Collected.{place_in, cuts_on, IsDraftOf, Places, draft_sides, column_sides, IsKept, IsPlanned, AreMadeOf}
use Rattle.table_plan.specs.internal.Planned.{PlansTables}
use Rattle.table_plan.proofs.PlaceLists.{place_within}
use Rattle.table_plan.proofs.DraftLists.{made_read, made_from, made_planned, made_places}
use Rattle.table_plan.proofs.RowSteps.{plan_is, column_placed, side_placed}

pub new_placed : (places : ColumnPlaces) (drafts : List ColumnDraft) (columns slice : List PlanColumn) → slice ≡ columns → AreMadeOf drafts columns → Places places (draft_sides drafts) → Places places (column_sides slice)
new_placed places drafts columns slice same made held =
    let P : List Side → Type 0 = λ sides. Places places sides in
    subst P (made_places drafts columns made ∙ ap column_sides (sym same)) held

pub new_planned : (drafts : List ColumnDraft) (columns slice : List PlanColumn) (ends given all : List ColumnEnd) → slice ≡ columns → given ≡ ends → ends ≡ all → AreMadeOf drafts columns → All (IsKept drafts) given → All (IsPlanned slice) all
new_planned drafts columns slice ends given all same given_is ends_is made kept =
    let P : List ColumnEnd → Type 0 = λ list. All (IsPlanned slice) list in
    let Q : List PlanColumn → Type 0 = λ list. All (IsPlanned list) given in
    subst P (given_is ∙ ends_is) (subst Q (sym same) (All-weaker (IsKept drafts) (IsPlanned columns) (made_planned drafts columns made) given kept))

pub new_plan : (columns slice held : List PlanColumn) (tables given : List LinkTable) (plans made : List PlanTable) → slice ≡ columns → held ≡ columns → given ≡ tables → made ≡ plans → PlansTables slice given plans
    → IsPlanOf (record { columns = held; tables = made }) tables
new_plan columns slice held tables given plans made same held_is given_is made_is h =
    let P : List PlanColumn → Type 0 = λ list. PlansTables list given plans in
    let Q : List LinkTable → Type 0 = λ list. PlansTables held list plans in
    let R : List PlanTable → Type 0 = λ list. PlansTables held tables list in
    plan_is (record { columns = held; tables = made }) tables (subst R (sym made_is) (subst Q given_is (subst P (same ∙ sym held_is) h)))

-- an end that is planned has its column
column_by : (columns : List PlanColumn) (e : ColumnEnd) (o : Option ℕ) → place_in (column_sides columns) e.side ≡ o → IsTrue (is_some o) → IsCutEnd (cuts_on columns e.side) e.bound → HasColumn columns e
column_by columns e None place some cut = absurd (false≢true some)
column_by columns e (Some i) place some cut =
    let blank : PlanColumn = record { side = e.side; cuts = [] } in
    let within : i < length columns = (
    let same : length (column_sides columns) ≡ length columns = length-map columns (λ (c : PlanColumn). c.side) in
    let inside : i < length (column_sides columns) = place_within (column_sides columns) e.side i place in
    omega arith) in
    let here = slice_get-get_or columns i blank within in
    let P : List Rational → Type 0 = λ cuts. IsCutEnd cuts e.bound in
    record {
      column = get_or columns i blank;
      there = Contains-get_or columns i blank within;
      side = side_placed columns e.side i (get_or columns i blank) place here;
      cut = subst P (sym (column_placed columns e.side i (get_or columns i blank) place here)) cut;
    }

pub new_columns : (drafts : List ColumnDraft) (columns slice held : List PlanColumn) (ends given all : List ColumnEnd) → slice ≡ columns → held ≡ columns → given ≡ ends → ends ≡ all → AreMadeOf drafts columns → IsOnce (draft_sides drafts)
    → All (IsKept drafts) given → All (IsDraftOf given) drafts → AreColumnsOf held all
new_columns drafts columns slice held ends given all same held_is given_is ends_is made once kept of =
    let P : List PlanColumn → Type 0 = λ list. AreColumnsOf list all in
    let Q : List ColumnEnd → Type 0 = λ list. AreColumnsOf columns list in
    subst P (sym held_is) (subst Q (given_is ∙ ends_is) (record {
      once = subst IsOnce (made_places drafts columns made) once;
      read = made_read drafts columns given made of;
      cuts = made_from drafts columns given made of;
      all = All-weaker (IsKept drafts) (HasColumn columns) (λ e h. (let planned = made_planned drafts columns made e h in column_by columns e (place_in (column_sides columns) e.side) refl planned.placed planned.cut)) given kept;
    }))
