-- The tables of links, once one more row is entered.
use Rattle.std.proofs.Common.{◌≡◌, ◌≢◌, ℕ, suc, zero, ◌+◌, ◌-◌, ◌<◌, ◌≤◌, Bool, true, false, not, cond, eqb, Option, Some, None, Ok, Err, List, [], ◌∷◌, ◌++◌, length, map, get_or, set, take, refl, sym, ap, subst, ◌∙◌, arith, slice_get, append_assoc}
use Rattle.std.specs.Prelude.{◌&&◌, ◌||◌}
use Rattle.std.proofs.lemmas.Bool.{true≢false, eq-eqb, ne_eqb, eqb-true, lt-ltb, le-ltb}
use Rattle.std.proofs.lemmas.List.{append-nil, get_or-map, length-map, length-take-le, length_push, map_more, take_all, take_more}
use Rattle.std.proofs.lemmas.List.Concat.{flat_map-append}
use Rattle.std.proofs.lemmas.List.Folds.{position_or_len_push}
use Rattle.std.proofs.lemmas.List.Kept.{AllPairs-from_increasing}
use Rattle.std.proofs.lemmas.List.Sorted.{searched}
use Rattle.std.proofs.lemmas.Option.{slice_get-get_or}
use Rattle.std.specs.List.{list_any, position, position_or_len}
use Rattle.std.specs.List.Sorted.{IsStrictlyIncreasing, IsBinarySearchResult}
use Rattle.std.specs.Ordering.{nat_cmp}
use Rattle.rule_types.specs.declared.action.Action.{Action}
use Rattle.rule_types.specs.declared.action.ActionAt.{ActionAt}
use Rattle.rule_types.specs.declared.action.Branch.{Branch}
use Rattle.rule_types.specs.declared.rule.Rule.{Rule}
use Rattle.rule_types.specs.declared.rules.Rules.{Rules}
use Rattle.rule_meaning.specs.Settled.{acts_on, as_list}
use Rattle.table_compiler.specs.declared.table.Clause.{Clause}
use Rattle.table_compiler.specs.declared.table.LinkTable.{LinkTable}
use Rattle.table_compiler.specs.declared.table.TableRow.{TableRow}
use Rattle.rule_types.specs.declared.action.Branch.TheVariants.{Then, Otherwise}
use Rattle.table_compiler.specs.Clauses.{clauses_of}
use Rattle.table_compiler.specs.Rows.{is_always, cut, row_of, first_on, branch_row, branch_rows, rule_rows, ranked, rows_on, tables_of}
use Rattle.table_compiler.specs.internal.Filling.{tables_with, ends_always, with_row, action_row, rows_of_places}

-- ---- rows with one more
cut_cons : (first : TableRow) (more : List TableRow) (b : Bool) → is_always first ≡ b → cut (first ∷ more) ≡ cond b (first ∷ []) (first ∷ cut more)
unfolding cut
cut_cons first more b is = ap (λ t. cond t (first ∷ []) (first ∷ cut more)) is

with_row_behind : (first row : TableRow) (rows : List TableRow) → is_always first ≡ false → with_row (first ∷ rows) row ≡ first ∷ with_row rows row
with_row_behind first row [] is = rw is refl
with_row_behind first row (next ∷ more) is = cond_behind (ends_always (next ∷ more))
  where
    cond_behind : (b : Bool) → cond b (first ∷ next ∷ more) ((first ∷ next ∷ more) ++ row ∷ []) ≡ first ∷ cond b (next ∷ more) ((next ∷ more) ++ row ∷ [])
    cond_behind true = refl
    cond_behind false = refl

cut_one : (row : TableRow) (b : Bool) → cond b (row ∷ []) (row ∷ []) ≡ row ∷ []
cut_one row true = refl
cut_one row false = refl

cut_push_by : (first : TableRow) (more : List TableRow) (row : TableRow) (b : Bool) → is_always first ≡ b → cut (more ++ row ∷ []) ≡ with_row (cut more) row → cut (first ∷ (more ++ row ∷ [])) ≡ with_row (cut (first ∷ more)) row
cut_push_by first more row true is h =
    cut_cons first (more ++ row ∷ []) true is
    ∙ sym (ap (λ rows. with_row rows row) (cut_cons first more true is) ∙ ap (λ b. cond b (first ∷ []) (first ∷ row ∷ [])) is)
cut_push_by first more row false is h =
    cut_cons first (more ++ row ∷ []) false is
    ∙ ap (λ rows. first ∷ rows) h
    ∙ sym (with_row_behind first row (cut more) is)
    ∙ sym (ap (λ rows. with_row rows row) (cut_cons first more false is))

pub cut_push : (rows : List TableRow) (row : TableRow) → cut (rows ++ row ∷ []) ≡ with_row (cut rows) row
unfolding cut
cut_push [] row = cut_one row (is_always row)
cut_push (first ∷ more) row = cut_push_by first more row (is_always first) refl (cut_push more row)

-- ---- entries of a list of links
abbrev table_of : (ℕ → List TableRow) → ℕ → LinkTable
table_of rows link = record { link = link; rows = cut (rows link) }

entries_same : (f g : ℕ → LinkTable) (xs : List ℕ) → ((k : ℕ) → k < length xs → f (get_or xs k 0) ≡ g (get_or xs k 0)) → map f xs ≡ map g xs
entries_same f g [] h = refl
entries_same f g (x ∷ xs) h =
    let first : f x ≡ g x = h 0 (omega arith) in
    let more : map f xs ≡ map g xs = entries_same f g xs (λ k below. h (suc k) (omega arith)) in
    cc

entry_written : (f g : ℕ → LinkTable) (xs : List ℕ) (place : ℕ) → place < length xs → ((k : ℕ) → k < length xs → k ≢ place → f (get_or xs k 0) ≡ g (get_or xs k 0)) → set (map f xs) place (g (get_or xs place 0)) ≡ map g xs
entry_written f g [] place within h = absurd (omega arith)
entry_written f g (x ∷ xs) zero within h =
    let more : map f xs ≡ map g xs = entries_same f g xs (λ k below. h (suc k) (omega arith) (λ e. (omega arith))) in
    ap (λ ys. g x ∷ ys) more
entry_written f g (x ∷ xs) (suc place) within h =
    let first : f x ≡ g x = h 0 (omega arith) (λ e. (omega arith)) in
    let more : set (map f xs) place (g (get_or xs place 0)) ≡ map g xs = entry_written f g xs place (omega arith) (λ k below apart. h (suc k) (omega arith) (λ e. apart (omega arith))) in
    cc

-- links that rise do not fall
not_falling : (links : List ℕ) → IsStrictlyIncreasing links → (i j : ℕ) → i ≤ j → j < length links → get_or links i 0 ≤ get_or links j 0
not_falling links rises i j h within =
    let later : i < j → get_or links i 0 < get_or links j 0 = λ g. AllPairs-from_increasing links rises i j 0 g within in
    grind arith

apart_by : (links : List ℕ) → IsStrictlyIncreasing links → (k place : ℕ) → k < length links → place < length links → k ≢ place → get_or links k 0 ≢ get_or links place 0
apart_by links rises k place k_within within apart e =
    let later : k < place → get_or links k 0 < get_or links place 0 = λ g. AllPairs-from_increasing links rises k place 0 g within in
    let earlier : place < k → get_or links place 0 < get_or links k 0 = λ g. AllPairs-from_increasing links rises place k 0 g k_within in
    let no_later : ¬ (k < place) = λ g. (let less = later g in omega arith) in
    let no_earlier : ¬ (place < k) = λ g. (let less = earlier g in omega arith) in
    apart (omega arith)

-- ---- a row in the table of a link
abbrev pub and_row : (ℕ → List TableRow) → ℕ → TableRow → ℕ → List TableRow
and_row rows link row other = rows other ++ cond (eqb link other) (row ∷ []) []

stays : (rows : ℕ → List TableRow) (link other : ℕ) (row : TableRow) → eqb link other ≡ false → table_of rows other ≡ table_of (and_row rows link row) other
stays rows link other row is =
    ap (λ list. record { link = other; rows = cut list })
    (sym (ap (λ b. rows other ++ cond b (row ∷ []) []) is ∙ append-nil (rows other)))

gains : (rows : ℕ → List TableRow) (link other : ℕ) (row : TableRow) → eqb link other ≡ true → record { link = other; rows = with_row (cut (rows other)) row } ≡ table_of (and_row rows link row) other
gains rows link other row is =
    ap (λ list. record { link = other; rows = list })
    (sym (ap (λ b. cut (rows other ++ cond b (row ∷ []) [])) is ∙ cut_push (rows other) row))

pub not_there : (links : List ℕ) (tables : List LinkTable) (rows : ℕ → List TableRow) (link i : ℕ) (row : TableRow) → IsStrictlyIncreasing links → IsBinarySearchResult (λ y. nat_cmp y link) links (Err i) → tables ≡ tables_with links rows → tables ≡ tables_with links (and_row rows link row)
unfolding tables_with
not_there links tables rows link i row rises result is =
    let facts = searched links link (Err i) result (not_falling links rises) in
    is ∙ entries_same (table_of rows) (table_of (and_row rows link row)) links
    (λ k below. stays rows link (get_or links k 0) row (ne_eqb link (get_or links k 0) (λ same. (
    let low : k < i → get_or links k 0 < link = facts.1 k in
    let high : i ≤ k → link < get_or links k 0 = λ g. facts.2 k g below in
    let not_low : ¬ (k < i) = λ g. (let less = low g in omega arith) in
    let above : link < get_or links k 0 = high (omega arith) in
    omega arith))))

pub entered : (links : List ℕ) (tables : List LinkTable) (rows : ℕ → List TableRow) (link place : ℕ) (row : TableRow) (d : LinkTable) → IsStrictlyIncreasing links → IsBinarySearchResult (λ y. nat_cmp y link) links (Ok place) → tables ≡ tables_with links rows
    → set tables place (record { link = (get_or tables place d).link; rows = with_row (get_or tables place d).rows row }) ≡ tables_with links (and_row rows link row)
unfolding tables_with
entered links tables rows link place row d rises result is =
    let facts = searched links link (Ok place) result (not_falling links rises) in
    let within : place < length links = facts.0 in
    let other : ℕ = get_or links place 0 in
    let held : get_or tables place d ≡ table_of rows (get_or links place 0) = ap (λ l. get_or l place d) is ∙ get_or-map (table_of rows) links place 0 d within in
    let new : record { link = (get_or tables place d).link; rows = with_row (get_or tables place d).rows row } ≡ table_of (and_row rows link row) (get_or links place 0) =
    ap (λ (t : LinkTable). record { link = t.link; rows = with_row t.rows row }) held ∙ gains rows link (get_or links place 0) row (eq-eqb link (get_or links place 0) (sym facts.1)) in
    ap (λ t. set tables place t) new
    ∙ ap (λ l. set l place (table_of (and_row rows link row) (get_or links place 0))) is
    ∙ entry_written (table_of rows) (table_of (and_row rows link row)) links place within
    (λ k below apart. stays rows link (get_or links k 0) row
    (ne_eqb link (get_or links k 0) (λ same. apart_by links rises k place below within apart (sym same ∙ sym facts.1))))

-- tables of the same rows are the same
pub same_rows : (links : List ℕ) (rows others : ℕ → List TableRow) → ((link : ℕ) → rows link ≡ others link) → tables_with links rows ≡ tables_with links others
same_rows links rows others h = λ i. tables_with links (λ link. h link i)

-- ---- the row of an action
row_where : (link : ℕ) (at : ActionAt) (clauses : List Clause) (actions : List Action) (action : Action) → slice_get actions at.action ≡ Some action → action_row link at clauses actions ≡ cond (eqb action.link link && not (list_any (λ one. eqb one.link link) (take at.action actions))) (as_list (row_of at clauses)) []
row_where link at clauses actions action is = ap (λ o. cond (acts_on link o && not (list_any (λ one. eqb one.link link) (take at.action actions))) (as_list (row_of at clauses)) []) is

nothing : (rows : List TableRow) (b : Bool) → b ≡ false → (c : List TableRow) → rows ≡ rows ++ cond b c []
nothing rows b is c = sym (ap (λ t. rows ++ cond t c []) is ∙ append-nil rows)

both_false : (a b : Bool) → (a ≡ true → b ≡ true) → (a && not b) ≡ false
both_false true b h = ap not (h refl)
both_false false b h = refl

-- where an action before it is on its link there is none
pub acted_before : (tables : List LinkTable) (links : List ℕ) (rows : ℕ → List TableRow) (at : ActionAt) (clauses : List Clause) (actions : List Action) (action : Action) → slice_get actions at.action ≡ Some action → list_any (λ one. eqb one.link action.link) (take at.action actions) ≡ true → tables ≡ tables_with links rows → tables ≡ tables_with links (λ link. rows link ++ action_row link at clauses actions)
acted_before tables links rows at clauses actions action is acts same =
    same ∙ same_rows links rows (λ link. rows link ++ action_row link at clauses actions)
    (λ link. nothing (rows link) (eqb action.link link && not (list_any (λ one. eqb one.link link) (take at.action actions)))
    (both_false (eqb action.link link) (list_any (λ one. eqb one.link link) (take at.action actions))
    (λ e. subst (λ l. list_any (λ one. eqb one.link l) (take at.action actions) ≡ true) (eqb-true action.link link e) acts))
    (as_list (row_of at clauses))
    ∙ ap (λ list. rows link ++ list) (sym (row_where link at clauses actions action is)))

-- where it has none there is none
pub no_row : (tables : List LinkTable) (links : List ℕ) (rows : ℕ → List TableRow) (at : ActionAt) (clauses : List Clause) (actions : List Action) → None ≡ row_of at clauses → tables ≡ tables_with links rows → tables ≡ tables_with links (λ link. rows link ++ action_row link at clauses actions)
no_row tables links rows at clauses actions none same =
    same ∙ same_rows links rows (λ link. rows link ++ action_row link at clauses actions)
    (λ link. sym (ap (λ o. rows link ++ cond (acts_on link (slice_get actions at.action) && not (list_any (λ one. eqb one.link link) (take at.action actions))) (as_list o) []) (sym none)
    ∙ ap (λ list. rows link ++ list) (cond_same (acts_on link (slice_get actions at.action) && not (list_any (λ one. eqb one.link link) (take at.action actions))))
    ∙ append-nil (rows link)))
  where
    cond_same : (b : Bool) → cond {A = List TableRow} b [] [] ≡ []
    cond_same true = refl
    cond_same false = refl

first_row_by : (a b : Bool) (c : List TableRow) → (a ≡ true → b ≡ false) → cond a c [] ≡ cond (a && not b) c []
first_row_by true b c h = sym (ap (λ t. cond (not t) c []) (h refl))
first_row_by false b c h = refl

-- else it is that on its link
pub first_row : (tables : List LinkTable) (links : List ℕ) (rows : ℕ → List TableRow) (at : ActionAt) (clauses : List Clause) (actions : List Action) (action : Action) (row : TableRow) → slice_get actions at.action ≡ Some action → list_any (λ one. eqb one.link action.link) (take at.action actions) ≡ false → Some row ≡ row_of at clauses → tables ≡ tables_with links (and_row rows action.link row) → tables ≡ tables_with links (λ link. rows link ++ action_row link at clauses actions)
first_row tables links rows at clauses actions action row is free has same =
    same ∙ same_rows links (and_row rows action.link row) (λ link. rows link ++ action_row link at clauses actions)
    (λ link. ap (λ list. rows link ++ list)
    (first_row_by (eqb action.link link) (list_any (λ one. eqb one.link link) (take at.action actions)) (row ∷ [])
    (λ e. subst (λ l. list_any (λ one. eqb one.link l) (take at.action actions) ≡ false) (eqb-true action.link link e) free)
    ∙ ap (λ o. cond (eqb action.link link && not (list_any (λ one. eqb one.link link) (take at.action actions))) (as_list o) []) has
    ∙ sym (row_where link at clauses actions action is)))

-- ---- the rows of a branch
none_before_by : {A : Type 0} (p : A → Bool) (x : A) (xs : List A) (b : Bool) → p x ≡ b → (list_any p xs ≡ false → position_or_len p xs ≡ length xs) → list_any p (x ∷ xs) ≡ false → position_or_len p (x ∷ xs) ≡ length (x ∷ xs)
none_before_by p x xs true is later h = absurd (true≢false (sym (ap (λ b. b || list_any p xs) is) ∙ h))
none_before_by p x xs false is later h =
    let rest : list_any p xs ≡ false = sym (ap (λ b. b || list_any p xs) is) ∙ h in
    let more : position_or_len p xs ≡ length xs = later rest in
    let here : position_or_len p (x ∷ xs) ≡ 1 + position_or_len p xs = ap (λ b. cond (not b) (1 + position_or_len p xs) 0) is in
    omega arith

none_before : {A : Type 0} (p : A → Bool) (xs : List A) → list_any p xs ≡ false → position_or_len p xs ≡ length xs
none_before p [] h = refl
none_before p (x ∷ xs) h = none_before_by p x xs (p x) refl (none_before p xs) h

some_before_by : {A : Type 0} (p : A → Bool) (x : A) (xs : List A) (b : Bool) → p x ≡ b → (list_any p xs ≡ true → position_or_len p xs < length xs) → list_any p (x ∷ xs) ≡ true → position_or_len p (x ∷ xs) < length (x ∷ xs)
some_before_by p x xs true is later h =
    let here : position_or_len p (x ∷ xs) ≡ 0 = ap (λ b. cond (not b) (1 + position_or_len p xs) 0) is in
    omega arith
some_before_by p x xs false is later h =
    let rest : list_any p xs ≡ true = sym (ap (λ b. b || list_any p xs) is) ∙ h in
    let more : position_or_len p xs < length xs = later rest in
    let here : position_or_len p (x ∷ xs) ≡ 1 + position_or_len p xs = ap (λ b. cond (not b) (1 + position_or_len p xs) 0) is in
    omega arith

some_before : {A : Type 0} (p : A → Bool) (xs : List A) → list_any p xs ≡ true → position_or_len p xs < length xs
some_before p [] h = absurd (true≢false (sym h))
some_before p (x ∷ xs) h = some_before_by p x xs (p x) refl (some_before p xs) h

position_some : {A : Type 0} (p : A → Bool) (xs : List A) → position_or_len p xs < length xs → position p xs ≡ Some (position_or_len p xs)
position_some p xs low = ap (λ b. cond b (Some (position_or_len p xs)) None) (lt-ltb (position_or_len p xs) (length xs) low)

position_none : {A : Type 0} (p : A → Bool) (xs : List A) → position_or_len p xs ≡ length xs → position p xs ≡ None
position_none p xs e = ap (λ b. cond b (Some (position_or_len p xs)) None) (le-ltb (position_or_len p xs) (length xs) (omega arith))

position_at : {A : Type 0} (p : A → Bool) (xs : List A) (n : ℕ) → position_or_len p xs ≡ n → n < length xs → position p xs ≡ Some n
position_at p xs n e low = position_some p xs (omega arith) ∙ ap Some e

push_some : {A : Type 0} (p : A → Bool) (xs : List A) (y : A) → list_any p xs ≡ true → position p (xs ++ y ∷ []) ≡ position p xs
push_some p xs y h =
    let low : position_or_len p xs < length xs = some_before p xs h in
    let long : length (xs ++ y ∷ []) ≡ length xs + 1 = length_push xs y in
    position_at p (xs ++ y ∷ []) (position_or_len p xs)
    (position_or_len_push p xs y ∙ ap (λ b. cond b (length xs + cond {A = ℕ} (p y) 0 1) (position_or_len p xs)) (ne_eqb (position_or_len p xs) (length xs) (λ e. (omega arith))))
    (omega arith)
    ∙ sym (position_some p xs low)

pushed_len : {A : Type 0} (p : A → Bool) (xs : List A) (y : A) → list_any p xs ≡ false → position_or_len p (xs ++ y ∷ []) ≡ length xs + cond {A = ℕ} (p y) 0 1
pushed_len p xs y h =
    position_or_len_push p xs y ∙ ap (λ b. cond b (length xs + cond {A = ℕ} (p y) 0 1) (position_or_len p xs)) (eq-eqb (position_or_len p xs) (length xs) (none_before p xs h))

push_first : {A : Type 0} (p : A → Bool) (xs : List A) (y : A) → list_any p xs ≡ false → p y ≡ true → position p (xs ++ y ∷ []) ≡ Some (length xs)
push_first p xs y h is =
    let long : length (xs ++ y ∷ []) ≡ length xs + 1 = length_push xs y in
    let zero_more : cond {A = ℕ} (p y) 0 1 ≡ 0 = ap (λ b. cond {A = ℕ} b 0 1) is in
    let len : position_or_len p (xs ++ y ∷ []) ≡ length xs + cond {A = ℕ} (p y) 0 1 = pushed_len p xs y h in
    position_at p (xs ++ y ∷ []) (length xs) (omega arith) (omega arith)

push_none : {A : Type 0} (p : A → Bool) (xs : List A) (y : A) → list_any p xs ≡ false → p y ≡ false → position p (xs ++ y ∷ []) ≡ None
push_none p xs y h is =
    let long : length (xs ++ y ∷ []) ≡ length xs + 1 = length_push xs y in
    let one_more : cond {A = ℕ} (p y) 0 1 ≡ 1 = ap (λ b. cond {A = ℕ} b 0 1) is in
    let len : position_or_len p (xs ++ y ∷ []) ≡ length xs + cond {A = ℕ} (p y) 0 1 = pushed_len p xs y h in
    position_none p (xs ++ y ∷ []) (omega arith)

one_more_by : (place : ℕ) (branch : Branch) (clauses : List Clause) (link : ℕ) (xs : List Action) (y : Action) (earlier on : Bool) → list_any (λ one. eqb one.link link) xs ≡ earlier → eqb y.link link ≡ on → branch_row place branch clauses (first_on link (xs ++ y ∷ [])) ≡ branch_row place branch clauses (first_on link xs) ++ cond (on && not earlier) (as_list (row_of (record { rule = place; branch = branch; action = length xs }) clauses)) []
one_more_by place branch clauses link xs y true on is at =
    ap (branch_row place branch clauses) (push_some (λ (one : Action). eqb one.link link) xs y is)
    ∙ nothing (branch_row place branch clauses (first_on link xs)) (on && false) (and_false on) (as_list (row_of (record { rule = place; branch = branch; action = length xs }) clauses))
  where
    and_false : (b : Bool) → (b && false) ≡ false
    and_false true = refl
    and_false false = refl
one_more_by place branch clauses link xs y false true is at =
    ap (branch_row place branch clauses) (push_first (λ (one : Action). eqb one.link link) xs y is at)
    ∙ ap (λ o. branch_row place branch clauses o ++ as_list (row_of (record { rule = place; branch = branch; action = length xs }) clauses))
    (sym (position_none (λ (one : Action). eqb one.link link) xs (none_before (λ (one : Action). eqb one.link link) xs is)))
one_more_by place branch clauses link xs y false false is at =
    ap (branch_row place branch clauses) (push_none (λ (one : Action). eqb one.link link) xs y is at)
    ∙ ap (λ o. branch_row place branch clauses o ++ [])
    (sym (position_none (λ (one : Action). eqb one.link link) xs (none_before (λ (one : Action). eqb one.link link) xs is)))

branch_step : (place : ℕ) (branch : Branch) (clauses : List Clause) (actions : List Action) (i : ℕ) (d : Action) (link : ℕ) → i < length actions → branch_row place branch clauses (first_on link (take i actions)) ++ action_row link (record { rule = place; branch = branch; action = i }) clauses actions ≡ branch_row place branch clauses (first_on link (take (i + 1) actions))
branch_step place branch clauses actions i d link within =
    let y : Action = get_or actions i d in
    let long : length (take i actions) ≡ i = length-take-le i actions (omega arith) in
    sym (ap (λ l. branch_row place branch clauses (first_on link l)) (take_more actions i d within)
    ∙ one_more_by place branch clauses link (take i actions) (get_or actions i d) (list_any (λ one. eqb one.link link) (take i actions)) (eqb (get_or actions i d).link link) refl refl
    ∙ ap (λ n. branch_row place branch clauses (first_on link (take i actions)) ++ cond (eqb (get_or actions i d).link link && not (list_any (λ one. eqb one.link link) (take i actions))) (as_list (row_of (record { rule = place; branch = branch; action = n }) clauses)) []) long
    ∙ ap (λ list. branch_row place branch clauses (first_on link (take i actions)) ++ list)
    (sym (row_where link (record { rule = place; branch = branch; action = i }) clauses actions (get_or actions i d) (slice_get-get_or actions i d within))))

some_item : {A : Type 0} (xs : List A) (i : ℕ) → i < length xs → A
some_item [] i h = absurd (omega arith)
some_item (x ∷ xs) i h = x

pub branch_more : (links : List ℕ) (tables : List LinkTable) (rows : ℕ → List TableRow) (place : ℕ) (branch : Branch) (clauses : List Clause) (actions : List Action) (i : ℕ) → i < length actions
    → tables ≡ tables_with links (λ link. (rows link ++ branch_row place branch clauses (first_on link (take i actions))) ++ action_row link (record { rule = place; branch = branch; action = i }) clauses actions)
    → tables ≡ tables_with links (λ link. rows link ++ branch_row place branch clauses (first_on link (take (i + 1) actions)))
branch_more links tables rows place branch clauses actions i within is =
    is ∙ same_rows links
    (λ link. (rows link ++ branch_row place branch clauses (first_on link (take i actions))) ++ action_row link (record { rule = place; branch = branch; action = i }) clauses actions)
    (λ link. rows link ++ branch_row place branch clauses (first_on link (take (i + 1) actions)))
    (λ link. append_assoc (rows link) (branch_row place branch clauses (first_on link (take i actions))) (action_row link (record { rule = place; branch = branch; action = i }) clauses actions)
    ∙ ap (λ list. rows link ++ list) (branch_step place branch clauses actions i (some_item actions i within) link within))

pub branch_none : (links : List ℕ) (tables : List LinkTable) (rows : ℕ → List TableRow) (place : ℕ) (branch : Branch) (clauses : List Clause) → tables ≡ tables_with links rows → tables ≡ tables_with links (λ link. rows link ++ branch_row place branch clauses (first_on link []))
branch_none links tables rows place branch clauses is =
    is ∙ same_rows links rows (λ link. rows link ++ []) (λ link. sym (append-nil (rows link)))

pub branch_all : (links : List ℕ) (tables : List LinkTable) (rows : ℕ → List TableRow) (place : ℕ) (branch : Branch) (clauses : List Clause) (actions : List Action) (i : ℕ) → length actions ≤ i
    → tables ≡ tables_with links (λ link. rows link ++ branch_row place branch clauses (first_on link (take i actions)))
    → tables ≡ tables_with links (λ link. rows link ++ branch_row place branch clauses (first_on link actions))
branch_all links tables rows place branch clauses actions i long is =
    is ∙ ap (λ l. tables_with links (λ link. rows link ++ branch_row place branch clauses (first_on link l))) (take_all i actions long)

-- ---- the rows of rules
rule_is : (link place : ℕ) (rule : Rule) (clauses : List Clause) (thens elses : List Action) → clauses ≡ clauses_of rule.conditions → thens ≡ rule.then_actions → elses ≡ rule.else_actions → branch_row place Then clauses (first_on link thens) ++ branch_row place Otherwise clauses (first_on link elses) ≡ rule_rows link place (Some rule)
unfolding branch_rows
rule_is link place rule clauses thens elses c_is then_is else_is =
    ap (λ cs. branch_row place Then cs (first_on link thens) ++ branch_row place Otherwise cs (first_on link elses)) c_is
    ∙ ap (λ l. branch_row place Then (clauses_of rule.conditions) (first_on link l) ++ branch_row place Otherwise (clauses_of rule.conditions) (first_on link elses)) then_is
    ∙ ap (λ l. branch_row place Then (clauses_of rule.conditions) (first_on link rule.then_actions) ++ branch_row place Otherwise (clauses_of rule.conditions) (first_on link l)) else_is

pub rule_done : (links : List ℕ) (tables : List LinkTable) (rows : ℕ → List TableRow) (place : ℕ) (rule : Rule) (clauses : List Clause) (thens elses : List Action) → clauses ≡ clauses_of rule.conditions → thens ≡ rule.then_actions → elses ≡ rule.else_actions
    → tables ≡ tables_with links (λ link. (rows link ++ branch_row place Then clauses (first_on link thens)) ++ branch_row place Otherwise clauses (first_on link elses))
    → tables ≡ tables_with links (λ link. rows link ++ rule_rows link place (Some rule))
rule_done links tables rows place rule clauses thens elses c_is then_is else_is is =
    is ∙ same_rows links
    (λ link. (rows link ++ branch_row place Then clauses (first_on link thens)) ++ branch_row place Otherwise clauses (first_on link elses))
    (λ link. rows link ++ rule_rows link place (Some rule))
    (λ link. append_assoc (rows link) (branch_row place Then clauses (first_on link thens)) (branch_row place Otherwise clauses (first_on link elses))
    ∙ ap (λ list. rows link ++ list) (rule_is link place rule clauses thens elses c_is then_is else_is))

pub rule_found : (links asked : List ℕ) (tables old : List LinkTable) (place : ℕ) (rule : Rule) (o : Option Rule) → asked ≡ links → Some rule ≡ o
    → ((rows : ℕ → List TableRow) → old ≡ tables_with asked rows → tables ≡ tables_with asked (λ link. rows link ++ rule_rows link place (Some rule)))
    → (rows : ℕ → List TableRow) → old ≡ tables_with links rows → tables ≡ tables_with links (λ link. rows link ++ rule_rows link place o)
rule_found links asked tables old place rule o l_is o_is h rows is =
    h rows (is ∙ ap (λ l. tables_with l rows) (sym l_is))
    ∙ ap (λ l. tables_with l (λ link. rows link ++ rule_rows link place (Some rule))) l_is
    ∙ ap (λ p. tables_with links (λ link. rows link ++ rule_rows link place p)) o_is

pub no_rule : (links : List ℕ) (tables : List LinkTable) (rows : ℕ → List TableRow) (place : ℕ) (o : Option Rule) → o ≡ None → tables ≡ tables_with links rows → tables ≡ tables_with links (λ link. rows link ++ rule_rows link place o)
no_rule links tables rows place o none is =
    is ∙ same_rows links rows (λ link. rows link ++ rule_rows link place o) (λ link. sym (ap (λ p. rows link ++ rule_rows link place p) none ∙ append-nil (rows link)))

places_step : (rules : List Rule) (places : List ℕ) (i d : ℕ) (link : ℕ) → i < length places → rows_of_places rules (take i places) link ++ rule_rows link (get_or places i d) (slice_get rules (get_or places i d)) ≡ rows_of_places rules (take (i + 1) places) link
places_step rules places i d link within =
    sym (ap (λ l. rows_of_places rules l link) (take_more places i d within)
    ∙ flat_map-append (λ place. rule_rows link place (slice_get rules place)) (take i places) (get_or places i d ∷ [])
    ∙ ap (λ list. rows_of_places rules (take i places) link ++ list) (append-nil (rule_rows link (get_or places i d) (slice_get rules (get_or places i d)))))

pub places_more : (links : List ℕ) (tables : List LinkTable) (rules : List Rule) (places : List ℕ) (i d : ℕ) → i < length places
    → tables ≡ tables_with links (λ link. rows_of_places rules (take i places) link ++ rule_rows link (get_or places i d) (slice_get rules (get_or places i d)))
    → tables ≡ tables_with links (rows_of_places rules (take (i + 1) places))
places_more links tables rules places i d within is =
    is ∙ same_rows links (λ link. rows_of_places rules (take i places) link ++ rule_rows link (get_or places i d) (slice_get rules (get_or places i d))) (rows_of_places rules (take (i + 1) places))
    (λ link. places_step rules places i d link within)

-- ---- the tables at first and in the end
pub empty_more : (links : List ℕ) (tables : List LinkTable) (rows : List TableRow) (i d : ℕ) → i < length links → rows ≡ [] → tables ≡ tables_with (take i links) (λ link. []) → tables ++ record { link = get_or links i d; rows = rows } ∷ [] ≡ tables_with (take (i + 1) links) (λ link. [])
unfolding tables_with cut
empty_more links tables rows i d within none is =
    ap (λ l. l ++ record { link = get_or links i d; rows = rows } ∷ []) is
    ∙ ap (λ r. map (λ link. record { link = link; rows = [] }) (take i links) ++ record { link = get_or links i d; rows = r } ∷ []) none
    ∙ sym (map_more (λ link. record { link = link; rows = [] }) links i d within)

pub places_all : (links : List ℕ) (tables : List LinkTable) (rules : List Rule) (places : List ℕ) (i : ℕ) → length places ≤ i → tables ≡ tables_with links (rows_of_places rules (take i places)) → tables ≡ tables_with links (rows_of_places rules places)
places_all links tables rules places i long is = is ∙ ap (λ l. tables_with links (rows_of_places rules l)) (take_all i places long)

pub no_tables : tables_with [] (λ link. []) ≡ []
unfolding tables_with
no_tables = refl

pub all_tables : (x : Rules) (places : List ℕ) → places ≡ ranked x.rules → tables_with x.controlled (rows_of_places x.rules places) ≡ tables_of x
unfolding tables_with tables_of rows_on
all_tables x places is = ap (λ l. tables_with x.controlled (rows_of_places x.rules l)) is

pub as_many : (links : List ℕ) (rows : ℕ → List TableRow) → length (tables_with links rows) ≡ length links
unfolding tables_with
as_many links rows = length-map links (table_of rows)

-- ---- the last row
abbrev pub always_at : Option TableRow → Bool
always_at None = false
always_at (Some row) = is_always row

pub last_is : (rows : List TableRow) → ends_always rows ≡ always_at (slice_get rows (length rows - 1))
last_is [] = refl
last_is (row ∷ []) = refl
last_is (row ∷ next ∷ more) =
    let here : length (next ∷ more) - 1 ≡ length more = omega arith in
    let there : suc (length more) ≡ length (row ∷ next ∷ more) - 1 = omega arith in
    last_is (next ∷ more)
    ∙ ap (λ n. always_at (slice_get (next ∷ more) n)) here
    ∙ ap (λ n. always_at (slice_get (row ∷ next ∷ more) n)) there
