-- Each row of the tables of rules names an action on its link, and holds only where its branch is
-- listed.
use Rattle.std.proofs.Common.{◌≡◌, ℕ, Bool, true, false, cond, Option, Some, None, List, [], ◌∷◌, refl, sym, ap, subst, ◌∙◌, arith, slice_get}
use Rattle.std.specs.Prelude.{All}
use Rattle.std.specs.List.{flat_map}
use Rattle.std.proofs.lemmas.List.Elements.{All-nil, All-cons, All-head, All-tail, All-append, All-map}
use Rattle.rule_types.specs.declared.action.ActionAt.{ActionAt}
use Rattle.rule_types.specs.declared.action.Branch.{Branch}
use Rattle.rule_types.specs.declared.action.Branch.TheVariants.{Then, Otherwise}
use Rattle.rule_types.specs.declared.rule.Rule.{Rule}
use Rattle.rule_types.specs.declared.rules.Rules.{Rules}
use Rattle.rule_types.specs.declared.state.State.{State}
use Rattle.rule_types.specs.Reading.{branch_actions, branch_action}
use Rattle.rule_meaning.specs.Premise.{premise_holds, listed_branch, IsListed}
use Rattle.rule_meaning.specs.Settled.{action_at, acts_on, is_on, as_list}
use Rattle.table_compiler.specs.declared.table.Clause.{Clause}
use Rattle.table_compiler.specs.declared.table.TableRow.{TableRow}
use Rattle.table_compiler.specs.Clauses.{clauses_of, is_possible}
use Rattle.table_compiler.specs.Rows.{first_on, row_by, row_of, branch_row, branch_rows, rule_rows, is_always, cut, ranked, rows_on, tables_of}
use Rattle.table_compiler.specs.Meaning.{row_holds, RowFits, TablesFit}
use Rattle.table_compiler.proofs.FirstRows.{first_action, listed_by, branch_found}
use Rattle.table_compiler.proofs.SettledRows.{first_within, acts_first}

-- ---- lists of rows
cut_by : (P : TableRow → Type 0) (row : TableRow) (more : List TableRow) (b : Bool) → P row → All P more → All P (cond b (row ∷ []) (row ∷ more))
cut_by P row more true h rest = All-cons P row [] h (All-nil P)
cut_by P row more false h rest = All-cons P row more h rest

pub All-cut : (P : TableRow → Type 0) (rows : List TableRow) → All P rows → All P (cut rows)
unfolding cut
All-cut P [] h = h
All-cut P (row ∷ more) h = cut_by P row (cut more) (is_always row) (All-head P row more h) (All-cut P more (All-tail P row more h))

pub All-flat_map : {X : Type 0} (P : TableRow → Type 0) (f : X → List TableRow) (xs : List X) → ((x : X) → All P (f x)) → All P (flat_map f xs)
All-flat_map P f [] h = All-nil P
All-flat_map P f (x ∷ xs) h = All-append P (f x) (flat_map f xs) (h x) (All-flat_map P f xs h)

pub All-one : (P : TableRow → Type 0) (o : Option TableRow) → ((row : TableRow) → o ≡ Some row → P row) → All P (as_list o)
All-one P None h = All-nil P
All-one P (Some row) h = All-cons P row [] (h row refl) (All-nil P)

-- ---- the row of an action
pub row_action : (at : ActionAt) (clauses : List Clause) (branch : Branch) (possible : Bool) (row : TableRow) → row_by at clauses branch possible ≡ Some row → row.action ≡ at
row_action at clauses Then true row h =
    let e : record { action = at; negated = false; clauses = clauses } ≡ row = grind arith in
    ap (λ (one : TableRow). one.action) (sym e)
row_action at clauses Then false row h = absurd (grind arith)
row_action at clauses Otherwise true row h =
    let e : record { action = at; negated = true; clauses = clauses } ≡ row = grind arith in
    ap (λ (one : TableRow). one.action) (sym e)
row_action at clauses Otherwise false row h =
    let e : record { action = at; negated = false; clauses = [] } ≡ row = grind arith in
    ap (λ (one : TableRow). one.action) (sym e)

is_branch : (branch : Branch) (premise : Bool) → listed_by branch premise ≡ true → branch ≡ cond premise Then Otherwise
is_branch Then true h = refl
is_branch Then false h = absurd (grind arith)
is_branch Otherwise true h = absurd (grind arith)
is_branch Otherwise false h = refl

some_cond : {A : Type 0} (b : Bool) (y z : A) → Some z ≡ cond b (Some y) None → b ≡ true
some_cond true y z h = refl
some_cond false y z h = absurd (grind arith)

one_holds : (x : Rules) (s : State) (row : TableRow) → row_holds x s row ≡ true → Some row.action ≡ first_action x s (row ∷ [])
one_holds x s row h = rw h refl

listed_where : (x : Rules) (s : State) (rule : Rule) (place : ℕ) (branch : Branch) (action : ℕ) (row : TableRow) → slice_get x.rules place ≡ Some rule → row_of (record { rule = place; branch = branch; action = action }) (clauses_of rule.conditions) ≡ Some row → row_holds x s row ≡ true → branch ≡ listed_branch x s rule
listed_where x s rule place branch action row is has h =
    let at : ActionAt = record { rule = place; branch = branch; action = action } in
    is_branch branch (premise_holds x s rule)
    (some_cond (listed_by branch (premise_holds x s rule)) at row.action
    (one_holds x s row h
    ∙ ap (λ o. first_action x s (as_list o)) (sym has)
    ∙ branch_found x s rule place branch (Some action) is))

on_by : (x : Rules) (link : ℕ) (rule : Rule) (at : ActionAt) → slice_get x.rules at.rule ≡ Some rule → first_on link (branch_actions rule at.branch) ≡ Some at.action → is_on x.rules link at ≡ true
unfolding is_on action_at
on_by x link rule at is h =
    ap (λ o. acts_on link (branch_action at o)) is
    ∙ acts_first link (branch_actions rule at.branch) at.action (slice_get (branch_actions rule at.branch) at.action) refl
    (first_within link (branch_actions rule at.branch) at.action h) h

row_fits : (x : Rules) (link : ℕ) (rule : Rule) (place : ℕ) (branch : Branch) (action : ℕ) (row : TableRow) → slice_get x.rules place ≡ Some rule → first_on link (branch_actions rule branch) ≡ Some action → row_of (record { rule = place; branch = branch; action = action }) (clauses_of rule.conditions) ≡ Some row → RowFits x link row
row_fits x link rule place branch action row is first has =
    let at : ActionAt = record { rule = place; branch = branch; action = action } in
    let same : row.action ≡ at = row_action at (clauses_of rule.conditions) branch (is_possible (clauses_of rule.conditions)) row has in
    record {
      on_link = subst (λ one. is_on x.rules link one ≡ true) (sym same) (on_by x link rule at is first);
      listed = λ s runs h. subst (λ one. IsListed x s one) (sym same) (record {
        rule = rule;
        is = is;
        branch = listed_where x s rule place branch action row is has h;
        action = first_within link (branch_actions rule branch) action first;
      });
    }

branch_fits : (x : Rules) (link : ℕ) (rule : Rule) (place : ℕ) (branch : Branch) (o : Option ℕ) → slice_get x.rules place ≡ Some rule → first_on link (branch_actions rule branch) ≡ o → All (RowFits x link) (branch_row place branch (clauses_of rule.conditions) o)
branch_fits x link rule place branch None is first = All-nil (RowFits x link)
branch_fits x link rule place branch (Some action) is first =
    All-one (RowFits x link) (row_of (record { rule = place; branch = branch; action = action }) (clauses_of rule.conditions))
    (λ row has. row_fits x link rule place branch action row is first has)

rule_fits : (x : Rules) (link place : ℕ) (o : Option Rule) → slice_get x.rules place ≡ o → All (RowFits x link) (rule_rows link place o)
unfolding branch_rows
rule_fits x link place None is = All-nil (RowFits x link)
rule_fits x link place (Some rule) is =
    All-append (RowFits x link) (branch_rows link place Then rule) (branch_rows link place Otherwise rule)
    (branch_fits x link rule place Then (first_on link rule.then_actions) is refl)
    (branch_fits x link rule place Otherwise (first_on link rule.else_actions) is refl)

rows_fit : (x : Rules) (link : ℕ) → All (RowFits x link) (rows_on x.rules link)
unfolding rows_on
rows_fit x link =
    All-cut (RowFits x link) (flat_map (λ place. rule_rows link place (slice_get x.rules place)) (ranked x.rules))
    (All-flat_map (RowFits x link) (λ place. rule_rows link place (slice_get x.rules place)) (ranked x.rules)
    (λ place. rule_fits x link place (slice_get x.rules place) refl))

pub All-tables : (x : Rules) (P : ℕ → TableRow → Type 0) → ((link : ℕ) → All (P link) (rows_on x.rules link)) → All (λ table. All (P table.link) table.rows) (tables_of x)
unfolding tables_of
All-tables x P h =
    All-map (λ table. All (P table.link) table.rows) (λ link. record { link = link; rows = rows_on x.rules link }) x.controlled
    (each x.controlled)
  where
    each : (links : List ℕ) → All (λ link. All (P link) (rows_on x.rules link)) links
    each [] = All-nil (λ link. All (P link) (rows_on x.rules link))
    each (link ∷ more) = All-cons (λ link. All (P link) (rows_on x.rules link)) link more (h link) (each more)

pub tables_fit : (x : Rules) → TablesFit x (tables_of x)
tables_fit x = All-tables x (RowFits x) (rows_fit x)
