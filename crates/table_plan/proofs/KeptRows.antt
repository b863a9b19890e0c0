-- A row that is found first stays where no piece that is read changes.
use Rattle.std.proofs.Common.{◌≡◌, ℕ, zero, suc, ◌+◌, ◌<◌, ◌≤◌, Bool, true, false, not, cond, Option, Some, None, List, [], ◌∷◌, ◌++◌, length, get_or, take, drop, refl, sym, ap, subst, ◌∙◌, arith, IsTrue, All}
use Rattle.std.specs.Prelude.{◌&&◌, ◌||◌, ◌==◌, option_map, option_and_then, slice_get}
use Rattle.std.specs.List.{list_all, list_any, find, flat_map}
use Rattle.std.specs.Option.{option_or}
use Rattle.std.proofs.lemmas.Bool.{and_parts, or_parts, not-true, eqb-true, true≢false, false≢true}
use Rattle.std.proofs.lemmas.List.{take-append-drop, take_more, drop_more, take_all}
use Rattle.std.proofs.lemmas.List.Elements.{All-head, All-weaker}
use Rattle.std.proofs.lemmas.List.Folds.{find-append}
use Rattle.rule_types.specs.declared.action.ActionAt.{ActionAt}
use Rattle.table_plan.specs.declared.piece_rows.PieceRow.{PieceRow}
use Rattle.table_plan.specs.declared.plan_rows.PlanClause.{PlanClause}
use Rattle.table_plan.specs.declared.plan_rows.PlanPart.{PlanPart}
use Rattle.table_plan.specs.declared.plan_rows.PlanPart.TheVariants.{Pieces, Number}
use Rattle.table_plan.specs.declared.plan_rows.PlanRow.{PlanRow}
use Rattle.table_plan.specs.declared.plan_rows.PlanTable.{PlanTable}
use Rattle.table_compiler.specs.declared.table.LinkTable.{LinkTable}
use Rattle.table_plan.specs.declared.plan_column.PlanColumn.{PlanColumn}
use Rattle.table_plan.specs.Plan.{Plan, pieces_of, first_by, keeps_by, keeps_order, IsPlanOf}
use Rattle.table_plan.specs.Told.{Told, ordered_told, rows_at}
use Rattle.table_plan.specs.PlanRows.{piece_at, lies_among, part_by, clause_by, row_by, first_in, part_columns, is_number, clause_columns, row_columns, clause_has_number, row_has_number, KnowsReads, same_piece, keeps_table}
use Rattle.table_plan.proofs.RowSteps.{all_left, all_right}

-- ---- the first row that holds
pub find_none_more : {X : Type 0} (p : X → Bool) (xs : List X) (i : ℕ) (x : X) → i < length xs → x ≡ get_or xs i x → find p (take i xs) ≡ None → p x ≡ false → find p (take (i + 1) xs) ≡ None
find_none_more p xs i x within is none fails =
    ap (find p) (take_more xs i x within ∙ ap (λ y. take i xs ++ y ∷ []) (sym is))
    ∙ find-append p (take i xs) (x ∷ [])
    ∙ ap (λ o. option_or o (cond (p x) (Some x) None)) none
    ∙ ap (λ t. cond t (Some x) None) fails

pub find_here : {X : Type 0} (p : X → Bool) (xs : List X) (i : ℕ) (x : X) → i < length xs → x ≡ get_or xs i x → find p (take i xs) ≡ None → p x ≡ true → find p xs ≡ Some x
find_here p xs i x within is none holds =
    ap (find p) (sym (take-append-drop i xs))
    ∙ find-append p (take i xs) (drop i xs)
    ∙ ap (λ o. option_or o (find p (drop i xs))) none
    ∙ ap (find p) (drop_more xs i x within ∙ ap (λ y. y ∷ drop (i + 1) xs) (sym is))
    ∙ ap (λ t. cond t (Some x) (find p (drop (i + 1) xs))) holds

pub find_nothing : {X : Type 0} (p : X → Bool) (xs : List X) (i : ℕ) → length xs ≤ i → find p (take i xs) ≡ None → find p xs ≡ None
find_nothing p xs i past none = ap (find p) (sym (take_all i xs past)) ∙ none

-- ---- tests that agree where what they read is the same
module _ (Same : ℕ → Type 0) where
  pub any_agree : {X : Type 0} (f g number : X → Bool) (columns : X → List ℕ) → ((x : X) → All Same (columns x) → number x ≡ false → f x ≡ g x)
      → (xs : List X) → All Same (flat_map columns xs) → list_any number xs ≡ false → list_any f xs ≡ list_any g xs
  any_agree f g number columns each [] all none = refl
  any_agree f g number columns each (x ∷ xs) all none =
      let parts = or_parts (number x) (list_any number xs) none in
      let first : f x ≡ g x = each x (all_left Same (columns x) (flat_map columns xs) all) parts.0 in
      let later : list_any f xs ≡ list_any g xs = any_agree f g number columns each xs (all_right Same (columns x) (flat_map columns xs) all) parts.1 in
      ap (λ t. t || list_any f xs) first ∙ ap (λ t. g x || t) later

  pub all_agree : {X : Type 0} (f g number : X → Bool) (columns : X → List ℕ) → ((x : X) → All Same (columns x) → number x ≡ false → f x ≡ g x)
      → (xs : List X) → All Same (flat_map columns xs) → list_any number xs ≡ false → list_all f xs ≡ list_all g xs
  all_agree f g number columns each [] all none = refl
  all_agree f g number columns each (x ∷ xs) all none =
      let parts = or_parts (number x) (list_any number xs) none in
      let first : f x ≡ g x = each x (all_left Same (columns x) (flat_map columns xs) all) parts.0 in
      let later : list_all f xs ≡ list_all g xs = all_agree f g number columns each xs (all_right Same (columns x) (flat_map columns xs) all) parts.1 in
      ap (λ t. t && list_all f xs) first ∙ ap (λ t. g x && t) later

  pub find_agree : {X : Type 0} (f g number : X → Bool) (columns : X → List ℕ) → ((x : X) → All Same (columns x) → number x ≡ false → f x ≡ g x)
      → (xs : List X) → All Same (flat_map columns xs) → list_any number xs ≡ false → find f xs ≡ find g xs
  find_agree f g number columns each [] all none = refl
  find_agree f g number columns each (x ∷ xs) all none =
      let parts = or_parts (number x) (list_any number xs) none in
      let first : f x ≡ g x = each x (all_left Same (columns x) (flat_map columns xs) all) parts.0 in
      let later : find f xs ≡ find g xs = find_agree f g number columns each xs (all_right Same (columns x) (flat_map columns xs) all) parts.1 in
      ap (λ t. cond t (Some x) (find f xs)) first ∙ ap (λ o. cond (g x) (Some x) o) later

module _ (old new : List (Option ℕ)) where
  abbrev Same : ℕ → Type 0
  Same column = piece_at old column ≡ piece_at new column

  part_agree : (truth other : ℕ → Bool) (part : PlanPart) → All Same (part_columns part) → is_number part ≡ false → part_by old truth part ≡ part_by new other part
  unfolding part_by
  part_agree truth other (Pieces range) all none =
      ap (lies_among range.first range.last) (All-head Same range.column [] all)
  part_agree truth other (Number place) all none = absurd (true≢false none)

  clause_agree : (truth other : ℕ → Bool) (clause : PlanClause) → All Same (clause_columns clause) → clause_has_number clause ≡ false → clause_by old truth clause ≡ clause_by new other clause
  unfolding clause_by
  clause_agree truth other clause all none = any_agree Same (part_by old truth) (part_by new other) is_number part_columns (part_agree truth other) clause.parts all none

  row_agree : (truth other : ActionAt → ℕ → Bool) (row : PlanRow) → All Same (row_columns row) → row_has_number row ≡ false → row_by old truth row ≡ row_by new other row
  unfolding row_by
  row_agree truth other row all none =
      ap (λ t. cond row.negated (not t) t)
      (all_agree Same (clause_by old (truth row.action)) (clause_by new (other row.action)) clause_has_number clause_columns (clause_agree (truth row.action) (other row.action)) row.clauses all none)

  rows_agree : (truth other : ActionAt → ℕ → Bool) (rows : List PlanRow) → All Same (flat_map row_columns rows) → list_any row_has_number rows ≡ false → first_in old truth rows ≡ first_in new other rows
  unfolding first_in
  rows_agree truth other rows all none =
      ap (option_map (λ (row : PlanRow). row.action)) (find_agree Same (row_by old truth) (row_by new other) row_has_number row_columns (row_agree truth other) rows all none)

  same_at : (a b : Option ℕ) → same_piece a b ≡ true → a ≡ b
  same_at None None h = refl
  same_at None (Some b) h = absurd (false≢true h)
  same_at (Some a) None h = absurd (false≢true h)
  same_at (Some a) (Some b) h = ap Some (eqb-true a b h)

  listed_same : (columns : List ℕ) (column : ℕ) → list_all (λ c. same_piece (piece_at old c) (piece_at new c)) columns ≡ true → list_any (λ c. c == column) columns ≡ true → Same column
  listed_same [] column all h = absurd (false≢true h)
  listed_same (c ∷ cs) column all h =
      let parts = and_parts (same_piece (piece_at old c) (piece_at new c)) (list_all (λ d. same_piece (piece_at old d) (piece_at new d)) cs) all in
      listed_by c cs column parts.0 (λ g. listed_same cs column parts.1 g) (c == column) refl h
    where
      listed_by : (d : ℕ) (ds : List ℕ) (k : ℕ) → same_piece (piece_at old d) (piece_at new d) ≡ true → (list_any (λ e. e == k) ds ≡ true → Same k) → (b : Bool) → (d == k) ≡ b → (b || list_any (λ e. e == k) ds) ≡ true → Same k
      listed_by d ds k first later true is h = subst Same (eqb-true d k is) (same_at (piece_at old d) (piece_at new d) first)
      listed_by d ds k first later false is h = later h

  table_kept : (table : PlanTable) → KnowsReads table → keeps_table table old new ≡ true → (truth other : ActionAt → ℕ → Bool) → first_in old truth table.rows ≡ first_in new other table.rows
  unfolding keeps_table
  table_kept table knows keeps truth other =
      let parts = and_parts (not table.by_number) (list_all (λ c. same_piece (piece_at old c) (piece_at new c)) table.columns) keeps in
      rows_agree truth other table.rows
      (All-weaker (λ column. IsTrue (list_any (λ c. c == column) table.columns)) Same (λ column h. listed_same table.columns column parts.1 h) (flat_map row_columns table.rows) knows.columns)
      (sym knows.numbers ∙ not-true table.by_number parts.0)

  kept_at : (tables : List PlanTable) → All KnowsReads tables → (k : ℕ) → keeps_by (slice_get tables k) old new ≡ true → (truth other : ActionAt → ℕ → Bool)
      → option_and_then (λ (t : PlanTable). first_in old truth t.rows) (slice_get tables k) ≡ option_and_then (λ (t : PlanTable). first_in new other t.rows) (slice_get tables k)
  kept_at [] all k keeps truth other = refl
  kept_at (t ∷ ts) all zero keeps truth other = table_kept t (All-head KnowsReads t ts all) keeps truth other
  kept_at (t ∷ ts) all (suc k) keeps truth other = kept_at ts (tail t ts all) k keeps truth other
    where
      tail : (s : PlanTable) (ss : List PlanTable) → All KnowsReads (s ∷ ss) → All KnowsReads ss
      tail s ss h = λ i d below. h (suc i) d (omega arith)

  pub order_kept : (plan : Plan) (table : ℕ) → All KnowsReads plan.tables → keeps_order plan table old new ≡ true → (truth other : ActionAt → ℕ → Bool)
      → first_by plan table new truth ≡ first_by plan table old other
  unfolding first_by keeps_order
  order_kept plan table all keeps truth other = sym (kept_at plan.tables all table keeps other truth)

-- ---- what a table knows of its rows
pub knows_made : (read columns : List ℕ) (number : Bool) (flat : Option (List PieceRow)) (rows first second made : List PlanRow) → columns ≡ read → made ≡ rows → first ≡ rows → second ≡ rows
    → All (λ column. IsTrue (list_any (λ c. c == column) read)) (flat_map row_columns first) → number ≡ list_any row_has_number second
    → KnowsReads (record { columns = columns; by_number = number; rows = made; flat = flat })
knows_made read columns number flat rows first second made columns_is made_is first_is second_is listed number_is = record {
  columns =
      let P : List ℕ → Type 0 = λ list. All (λ column. IsTrue (list_any (λ c. c == column) list)) (flat_map row_columns made) in
      let Q : List PlanRow → Type 0 = λ list. All (λ column. IsTrue (list_any (λ c. c == column) read)) (flat_map row_columns list) in
      subst P (sym columns_is) (subst Q (first_is ∙ sym made_is) listed);
  numbers = number_is ∙ ap (list_any row_has_number) (second_is ∙ sym made_is);
}

-- ---- a table of a plan
pub first_at : (plan : Plan) (columns : List PlanColumn) (tables : List PlanTable) (k : ℕ) (pieces : List (Option ℕ)) (truth : ActionAt → ℕ → Bool) (found : Option PlanTable) → record { columns = columns; tables = tables } ≡ plan → found ≡ slice_get tables k
    → option_and_then (λ (t : PlanTable). first_in pieces truth t.rows) found ≡ first_by plan k pieces truth
unfolding first_by
first_at plan columns tables k pieces truth found plan_is found_is =
    ap (option_and_then (λ (t : PlanTable). first_in pieces truth t.rows)) found_is
    ∙ ap (λ (p : Plan). option_and_then (λ (t : PlanTable). first_in pieces truth t.rows) (slice_get p.tables k)) plan_is

pub keeps_at : (plan : Plan) (columns : List PlanColumn) (tables : List PlanTable) (k : ℕ) (old new : List (Option ℕ)) (found : Option PlanTable) → record { columns = columns; tables = tables } ≡ plan → found ≡ slice_get tables k
    → keeps_by found old new ≡ keeps_order plan k old new
unfolding keeps_order
keeps_at plan columns tables k old new found plan_is found_is =
    ap (λ o. keeps_by o old new) found_is ∙ ap (λ (p : Plan). keeps_by (slice_get p.tables k) old new) plan_is

pub orders_by : (plan : Plan) (tables : List LinkTable) (k : ℕ) (told : Told) (pieces : List (Option ℕ)) (truth : ActionAt → ℕ → Bool) (ordered : Option ActionAt) → ordered ≡ first_by plan k pieces truth → IsPlanOf plan tables
    → pieces ≡ pieces_of plan.columns told.value → truth ≡ told.truth → ordered ≡ ordered_told told (rows_at tables k)
orders_by plan tables k told pieces truth ordered is planned pieces_is truth_is =
    is ∙ ap (λ p. first_by plan k p truth) pieces_is ∙ ap (first_by plan k (pieces_of plan.columns told.value)) truth_is ∙ planned.orders k told

pub kept_in : (plan : Plan) (columns : List PlanColumn) (tables : List PlanTable) (k : ℕ) (old new : List (Option ℕ)) (keeps : Bool) → record { columns = columns; tables = tables } ≡ plan → All KnowsReads tables → keeps ≡ keeps_order plan k old new → keeps ≡ true
    → (truth other : ActionAt → ℕ → Bool) → first_by plan k new truth ≡ first_by plan k old other
kept_in plan columns tables k old new keeps plan_is knows keeps_is is truth other =
    let P : Plan → Type 0 = λ p. All KnowsReads p.tables in
    order_kept old new plan k (subst P plan_is knows) (sym keeps_is ∙ is) truth other
