-- Rows that fit act on the links of their tables.
use Rattle.std.proofs.Common.{◌≡◌, ℕ, suc, ◌==◌, Bool, true, false, cond, Option, Some, None, option_and_then, List, [], ◌∷◌, refl, sym, ap, subst, ◌∙◌, eqb-true}
use Rattle.std.proofs.lemmas.Option.{none-some, same_Some, slice_get_within, get_or_from_slice_get}
use Rattle.std.specs.Prelude.{slice_get, All, IfSome, IsTrue}
use Rattle.std.specs.List.{find}
use Rattle.std.specs.Option.{option_map}
use Rattle.rule_types.specs.declared.rules.Rules.{Rules}
use Rattle.rule_types.specs.declared.state.State.{State}
use Rattle.rule_meaning.specs.Reading.{ActsOnLinks}
use Rattle.rule_meaning.specs.Settled.{is_on}
use Rattle.table_compiler.specs.declared.table.LinkTable.{LinkTable}
use Rattle.table_compiler.specs.declared.table.TableRow.{TableRow}
use Rattle.table_compiler.specs.Meaning.{row_holds, ordered_by, tabled, RowFits, TablesFit}

record FoundAt {A : Type 0} (test : A → Bool) (xs : List A) (one : A) : Type 0 where
  pub place : ℕ
  pub is : slice_get xs place ≡ Some one
  pub passes : test one ≡ true

found_by : {A : Type 0} (test : A → Bool) (x : A) (xs : List A) (one : A) (b : Bool) → test x ≡ b
    → cond b (Some x) (find test xs) ≡ Some one → (find test xs ≡ Some one → FoundAt test xs one)
    → FoundAt test (x ∷ xs) one
found_by test x xs one true is e later =
    let same : x ≡ one = same_Some x one e in
    record { place = 0; is = e; passes = ap test (sym same) ∙ is }
found_by test x xs one false is e later =
    let found = later e in
    record { place = suc found.place; is = found.is; passes = found.passes }

found : {A : Type 0} (test : A → Bool) (xs : List A) (one : A) → find test xs ≡ Some one → FoundAt test xs one
found test [] one e = absurd (none-some one e)
found test (x ∷ xs) one e = found_by test x xs one (test x) refl e (found test xs one)

all_at : {A : Type 0} (P : A → Type 0) (xs : List A) (k : ℕ) (one : A) → All P xs → slice_get xs k ≡ Some one → P one
all_at P xs k one all is = subst P (get_or_from_slice_get xs k one one is) (all k one (slice_get_within xs k one is))

row_acts : (x : Rules) (s : State) (link : ℕ) (rows : List TableRow) (o : Option TableRow)
    → All (RowFits x link) rows → find (row_holds x s) rows ≡ o
    → IfSome (option_map (λ row. row.action) o) (λ at. IsTrue (is_on x.rules link at))
row_acts x s link rows None fit is = tt
row_acts x s link rows (Some row) fit is =
    let at = found (row_holds x s) rows row is in
    (all_at (RowFits x link) rows at.place row fit at.is).on_link

table_acts : (x : Rules) (s : State) (link : ℕ) (tables : List LinkTable) (o : Option LinkTable)
    → TablesFit x tables → find (λ table. table.link == link) tables ≡ o
    → IfSome (option_and_then (λ table. ordered_by x s table.rows) o) (λ at. IsTrue (is_on x.rules link at))
unfolding ordered_by
table_acts x s link tables None fit is = tt
table_acts x s link tables (Some table) fit is =
    let at = found (λ (one : LinkTable). one.link == link) tables table is in
    let same : table.link ≡ link = eqb-true table.link link at.passes in
    let rows : All (RowFits x table.link) table.rows =
    all_at (λ (one : LinkTable). All (RowFits x one.link) one.rows) tables at.place table fit at.is in
    row_acts x s link table.rows (find (row_holds x s) table.rows)
    (subst (λ n. All (RowFits x n) table.rows) same rows) refl

link_acts : (x : Rules) (tables : List LinkTable) → TablesFit x tables → (s : State) (link : ℕ)
    → IfSome (tabled x tables s link) (λ at. IsTrue (is_on x.rules link at))
unfolding tabled
link_acts x tables fit s link = table_acts x s link tables (find (λ (table : LinkTable). table.link == link) tables) fit refl

pub fit_acts : (x : Rules) (tables : List LinkTable) → TablesFit x tables → ActsOnLinks x (tabled x tables)
fit_acts x tables fit = record { each = link_acts x tables fit }
