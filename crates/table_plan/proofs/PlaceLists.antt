-- The place of a column among columns.
use Rattle.std.proofs.Common.{get_or, ◌≡◌, ℕ, zero, suc, ◌<◌, Bool, true, false, cond, eqb, Option, Some, None, is_some, List, [], ◌∷◌, ◌++◌, length, refl, sym, ap, ◌∙◌, arith, option_map, IsTrue}
use Rattle.std.specs.BTreeMap.{BTreeMap, get}
use Rattle.std.specs.Ordering.{nat_cmp, is_eq}
use Rattle.std.proofs.lemmas.Bool.{eqb-true, eq-eqb, false≢true}
use Rattle.std.proofs.lemmas.Bool.Decides.{nat_tests}
use Rattle.std.proofs.lemmas.List.Quantifiers.{all_pairs_push}
use Rattle.std.proofs.lemmas.Map.Text.{is_eq-slice_cmp}
use Rattle.std.proofs.lemmas.Option.{none-some, same_Some}
use Rattle.rule_types.specs.declared.condition.Side.{Side}
use Rattle.rule_types.specs.declared.condition.Side.TheVariants as side
use Rattle.rule_types.specs.declared.key.Key.{Key}
use Rattle.rule_types.specs.KeyOrder.{key_place, key_cmp}
use Rattle.rule_types.proofs.PublicLaws.{equal_keys-key}
use Rattle.table_compiler.specs.Parts.{same_column}
use Rattle.table_plan.specs.declared.column_places.ColumnPlaces.{ColumnPlaces}
use Rattle.table_plan.specs.internal.Collected.{place_in, found, Places}

-- ---- columns that are one are equal
pub same_side : (column other : Side) → same_column column other ≡ true → column ≡ other
same_side (side.Key key) (side.Key other) h = ap side.Key ((equal_keys-key key other).0 h)
same_side (side.Key key) (side.Expr other) h = absurd (false≢true h)
same_side (side.Expr name) (side.Key other) h = absurd (false≢true h)
same_side (side.Expr name) (side.Expr other) h = ap side.Expr (eqb-true name other h)

pub side_itself : (column : Side) → same_column column column ≡ true
side_itself (side.Key key) = (equal_keys-key key key).1 refl
side_itself (side.Expr name) = eq-eqb name name refl

-- ---- the maps, with one place more
pub key_inserted : (key : Key) (at : ℕ) (old new : BTreeMap Key ℕ) (names : BTreeMap ℕ ℕ) → ((q : Key) → get key_cmp new q ≡ cond (is_eq (key_cmp key q)) (Some at) (get key_cmp old q))
    → (column : Side) → found (record { keys = new; names = names }) column ≡ cond (same_column (side.Key key) column) (Some at) (found (record { keys = old; names = names }) column)
key_inserted key at old new names h (side.Key q) =
    h q ∙ ap (λ t. cond t (Some at) (get key_cmp old q)) (is_eq-slice_cmp (key_place key) (key_place q))
key_inserted key at old new names h (side.Expr name) = refl

equal_test : (a b : ℕ) → is_eq (nat_cmp a b) ≡ eqb a b
equal_test a b = grind (arith, nat_tests)

pub name_inserted : (name at : ℕ) (keys : BTreeMap Key ℕ) (old new : BTreeMap ℕ ℕ) → ((q : ℕ) → get nat_cmp new q ≡ cond (is_eq (nat_cmp name q)) (Some at) (get nat_cmp old q))
    → (column : Side) → found (record { keys = keys; names = new }) column ≡ cond (same_column (side.Expr name) column) (Some at) (found (record { keys = keys; names = old }) column)
name_inserted name at keys old new h (side.Key q) = refl
name_inserted name at keys old new h (side.Expr q) =
    h q ∙ ap (λ t. cond t (Some at) (get nat_cmp old q)) (equal_test name q)

-- ---- one column more
place_cons : (first column : Side) (more : List Side) (b : Bool) → same_column first column ≡ b → place_in (first ∷ more) column ≡ cond b (Some 0) (option_map suc (place_in more column))
unfolding place_in
place_cons first column more b is = ap (λ t. cond t (Some 0) (option_map suc (place_in more column))) is

no_suc : (o : Option ℕ) → option_map suc o ≡ None → o ≡ None
no_suc None is = refl
no_suc (Some i) is = absurd (none-some (suc i) (sym is))

behind_by : (first column other : Side) (more : List Side) (b : Bool) → same_column first other ≡ b → place_in (first ∷ more) other ≡ None
    → (place_in more other ≡ None → place_in (more ++ column ∷ []) other ≡ Some (length more)) → place_in (first ∷ (more ++ column ∷ [])) other ≡ Some (suc (length more))
behind_by first column other more true is none later = absurd (none-some 0 (sym none ∙ place_cons first other more true is))
behind_by first column other more false is none later =
    place_cons first other (more ++ column ∷ []) false is
    ∙ ap (option_map suc) (later (no_suc (place_in more other) (sym (place_cons first other more false is) ∙ none)))

place_behind : (columns : List Side) (column other : Side) → place_in columns other ≡ None → same_column column other ≡ true → place_in (columns ++ column ∷ []) other ≡ Some (length columns)
unfolding place_in
place_behind [] column other none is = ap (λ t. cond t (Some 0) None) is
place_behind (first ∷ more) column other none is =
    behind_by first column other more (same_column first other) refl none (λ h. place_behind more column other h is)

place_beside : (columns : List Side) (column other : Side) → same_column column other ≡ false → place_in (columns ++ column ∷ []) other ≡ place_in columns other
unfolding place_in
place_beside [] column other is = ap (λ t. cond t (Some 0) None) is
place_beside (first ∷ more) column other is =
    ap (λ o. cond (same_column first other) (Some 0) (option_map suc o)) (place_beside more column other is)

place_pushed : (columns : List Side) (column other : Side) (b : Bool) → same_column column other ≡ b → place_in columns column ≡ None → place_in (columns ++ column ∷ []) other ≡ cond b (Some (length columns)) (place_in columns other)
place_pushed columns column other true is none =
    place_behind columns column other (ap (place_in columns) (sym (same_side column other is)) ∙ none) is
place_pushed columns column other false is none = place_beside columns column other is

absent_by : (first column : Side) (more : List Side) (k : ℕ) (d : Side) (b : Bool) → same_column first column ≡ b → place_in (first ∷ more) column ≡ None → k < suc (length more) → get_or (first ∷ more) k d ≡ column
    → (place_in more column ≡ None → (j : ℕ) → j < length more → get_or more j d ≡ column → ⊥) → ⊥
absent_by first column more k d true is none within here later = none-some 0 (sym none ∙ place_cons first column more true is)
absent_by first column more zero d false is none within here later =
    false≢true (sym is ∙ ap (λ s. same_column s column) here ∙ side_itself column)
absent_by first column more (suc k) d false is none within here later =
    later (no_suc (place_in more column) (sym (place_cons first column more false is) ∙ none)) k (omega arith) here

-- a column that has no place is not listed
absent : (columns : List Side) (column : Side) → place_in columns column ≡ None → (k : ℕ) (d : Side) → k < length columns → get_or columns k d ≡ column → ⊥
absent [] column none k d within here = omega arith
absent (first ∷ more) column none k d within here =
    absent_by first column more k d (same_column first column) refl none within here (λ h j low g. absent more column h j d low g)

pub places_pushed : (old new : ColumnPlaces) (columns : List Side) (column : Side) (at : ℕ) → Places old columns → found old column ≡ None → at ≡ length columns
    → ((other : Side) → found new other ≡ cond (same_column column other) (Some at) (found old other)) → Places new (columns ++ column ∷ [])
places_pushed old new columns column at held none here added = record {
  at = λ other.
      added other
      ∙ ap (λ o. cond (same_column column other) (Some at) o) (held.at other)
      ∙ ap (λ n. cond (same_column column other) (Some n) (place_in columns other)) here
      ∙ sym (place_pushed columns column other (same_column column other) refl (sym (held.at column) ∙ none));
  once = all_pairs_push (λ side other. ¬ (side ≡ other)) columns column held.once (λ k d within same. absent columns column (sym (held.at column) ∙ none) k d within same);
}

pub place_itself : (columns : List Side) (column : Side) → place_in columns column ≡ None → place_in (columns ++ column ∷ []) column ≡ Some (length columns)
place_itself columns column none = place_behind columns column column none (side_itself column)

pub places_found : (places : ColumnPlaces) (columns : List Side) (column : Side) → Places places columns → found places column ≡ place_in columns column
places_found places columns column held = held.at column

pub places_none : (places : ColumnPlaces) → ((column : Side) → found places column ≡ None) → Places places []
unfolding place_in
places_none places none = record { at = none; once = λ i j d before within. absurd (omega arith) }

-- a column that has a place keeps it
some_suc : (o : Option ℕ) → is_some (option_map suc o) ≡ true → is_some o ≡ true
some_suc None is = is
some_suc (Some i) is = refl

kept_by : (first column : Side) (rest more : List Side) (b : Bool) → same_column first column ≡ b → IsTrue (is_some (place_in (first ∷ rest) column))
    → (IsTrue (is_some (place_in rest column)) → place_in (rest ++ more) column ≡ place_in rest column) → place_in (first ∷ (rest ++ more)) column ≡ place_in (first ∷ rest) column
kept_by first column rest more true is h later = place_cons first column (rest ++ more) true is ∙ sym (place_cons first column rest true is)
kept_by first column rest more false is h later =
    place_cons first column (rest ++ more) false is
    ∙ ap (option_map suc) (later (some_suc (place_in rest column) (ap is_some (sym (place_cons first column rest false is)) ∙ h)))
    ∙ sym (place_cons first column rest false is)

pub place_kept : (columns more : List Side) (column : Side) → IsTrue (is_some (place_in columns column)) → place_in (columns ++ more) column ≡ place_in columns column
unfolding place_in
place_kept [] more column h = absurd (false≢true h)
place_kept (first ∷ rest) more column h =
    kept_by first column rest more (same_column first column) refl h (λ g. place_kept rest more column g)

-- a place is one of the list's, and the column stands there
place_next : (o : Option ℕ) (i : ℕ) → option_map suc o ≡ Some i → (j : ℕ) × (o ≡ Some j) × (i ≡ suc j)
place_next None i is = absurd (none-some i is)
place_next (Some j) i is = (j, refl, sym (same_Some (suc j) i is))

within_by : (first column : Side) (more : List Side) (i : ℕ) (b : Bool) → same_column first column ≡ b → place_in (first ∷ more) column ≡ Some i
    → ((j : ℕ) → place_in more column ≡ Some j → j < length more) → i < suc (length more)
within_by first column more i true first_is is later =
    let here : 0 ≡ i = same_Some 0 i (sym (place_cons first column more true first_is) ∙ is) in
    omega arith
within_by first column more i false first_is is later =
    let next = place_next (place_in more column) i (sym (place_cons first column more false first_is) ∙ is) in
    let inside : next.0 < length more = later next.0 next.1 in
    let at : i ≡ suc next.0 = next.2 in
    omega arith

pub place_within : (columns : List Side) (column : Side) (i : ℕ) → place_in columns column ≡ Some i → i < length columns
unfolding place_in
place_within [] column i is = absurd (none-some i is)
place_within (first ∷ more) column i is =
    within_by first column more i (same_column first column) refl is (λ j h. place_within more column j h)

pub place_splits : (first column : Side) (more : List Side) (i : ℕ) → place_in (first ∷ more) column ≡ Some i → (b : Bool) → same_column first column ≡ b
    → cond b (i ≡ 0) ((j : ℕ) × (place_in more column ≡ Some j) × (i ≡ suc j))
place_splits first column more i is true first_is = sym (same_Some 0 i (sym (place_cons first column more true first_is) ∙ is))
place_splits first column more i is false first_is = place_next (place_in more column) i (sym (place_cons first column more false first_is) ∙ is)
