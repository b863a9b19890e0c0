-- Keys that are added piece by piece, and put in order.
use Rattle.std.proofs.Common.{◌≡◌, ℕ, ◌+◌, ◌<◌, ◌≤◌, List, [], ◌∷◌, ◌++◌, length, get_or, drop, refl, sym, subst, ap, ◌∙◌, append_assoc}
use Rattle.std.proofs.lemmas.List.{append-nil, drop_more, drop_all}
use Rattle.std.proofs.lemmas.Option.{slice_get-get_or, slice_get_past}
use Rattle.std.proofs.lemmas.List.Folds.{list_any-append}
use Rattle.std.specs.Prelude.{Option, Some, None, Result, Ok, Err, OnOk, slice_get}
use Rattle.std.specs.BTreeSet.{insert_key}
use Rattle.std.specs.Ordering.{match_ordering}
use Rattle.std.specs.List.{flat_map}
use Rattle.std.specs.declared.cmp.Ordering.{Ordering}
use Rattle.std.specs.declared.cmp.Ordering.TheVariants.{Less, Equal, Greater}
use Rattle.std.proofs.lemmas.Grind.{flat_map-append}
use Rattle.byte_edge.specs.declared.failed.NoMemory.{NoMemory}
use Rattle.rule_types.specs.Formulas.{formula_names}
use Rattle.rule_types.specs.KeyOrder.{key_cmp}
use Rattle.rule_types.specs.Reading.{at_name, kind_key, kind_names, name_keys, variable_keys}
use Rattle.rule_types.specs.declared.expr.Expr.{Expr}
use Rattle.rule_types.specs.declared.expr.Expr.TheVariants.{Add, Sub, Mul, Div, rolls-Add, rolls-Sub, rolls-Mul, rolls-Div}
use Rattle.rule_types.specs.declared.expr.Expr.TheFolds.{fold-roll-Expr}
use Rattle.rule_types.specs.declared.key.Key.{Key}
use Rattle.rule_types.specs.declared.names.NameDef.{NameDef}
use Rattle.verdict_meaning.specs.Questions.{in_key_order, placed_by, with_key}
use Rattle.question_boxes.specs.declared.reads.KeyList.{KeyList}
use Rattle.question_boxes.specs.internal.KeyLists.{Adds}

pub ruleset either_list = (list_any-append)

-- nothing is added
pub adds-none : (list : KeyList) → Adds list list []
adds-none list = record { keys = sym (append-nil list.keys.items) }

-- some keys and then others
pub adds-then : (before between after : KeyList) (one other : List Key) → Adds before between one
    → Adds between after other → Adds before after (one ++ other)
adds-then before between after one other h k = record {
  keys =
      k.keys ∙ ap (λ list. list ++ other) h.keys
      ∙ append_assoc before.keys.items one other;
}

pub ruleset additions = (adds-none, adds-then)

-- a name that is found, and one that is not
pub found_name : (names : List NameDef) (name : ℕ) (named : NameDef) → name < length names
    → ((d : NameDef) → named ≡ get_or names name d) → Some named ≡ slice_get names name
found_name names name named within is =
    ap (λ one. Some one) (is named) ∙ sym (slice_get-get_or names name named within)

pub no_name : (names : List NameDef) (name : ℕ) → length names ≤ name
    → None ≡ slice_get names name
no_name names name past = sym (slice_get_past names name past)

-- what a name that is no variable adds
pub no_key : (list : KeyList) (names : List NameDef) (name : ℕ) (o : Option NameDef)
    → o ≡ slice_get names name → at_name kind_key o ≡ []
    → Adds list list (variable_keys names name)
no_key list names name o is none =
    subst (Adds list list) (sym (ap (at_name kind_key) (sym is) ∙ none)) (adds-none list)

-- what the variables of a name add beside itself
pub name_formula : (before between after : KeyList) (names : List NameDef) (name : ℕ)
    (o : Option NameDef) (formula : Expr) (result : Result (Unit {0}) NoMemory)
    → o ≡ slice_get names name → at_name kind_names o ≡ formula_names formula
    → Adds before between (variable_keys names name)
    → OnOk result (Adds between after (flat_map (variable_keys names) (formula_names formula)))
    → OnOk result (Adds before after (name_keys names name))
name_formula before between after names name o formula (Ok done) is e h k =
    let same : formula_names formula ≡ at_name kind_names (slice_get names name) =
    sym e ∙ ap (at_name kind_names) is in
    adds-then before between after (variable_keys names name)
    (flat_map (variable_keys names) (at_name kind_names (slice_get names name))) h
    (subst (λ all. Adds between after (flat_map (variable_keys names) all)) same k)
name_formula before between after names name o formula (Err fault) is e h k = tt

pub name_alone : (before after : KeyList) (names : List NameDef) (name : ℕ) (o : Option NameDef)
    → o ≡ slice_get names name → at_name kind_names o ≡ []
    → Adds before after (variable_keys names name) → Adds before after (name_keys names name)
name_alone before after names name o is e h =
    let same : [] ≡ at_name kind_names (slice_get names name) =
    sym e ∙ ap (at_name kind_names) is in
    adds-then before after after (variable_keys names name)
    (flat_map (variable_keys names) (at_name kind_names (slice_get names name))) h
    (subst (λ all. Adds after after (flat_map (variable_keys names) all)) same (adds-none after))

-- what two operands add
pub adds_both : (read : ℕ → List Key) (before between after : KeyList) (one other : List ℕ)
    → Adds before between (flat_map read one) → Adds between after (flat_map read other)
    → Adds before after (flat_map read (one ++ other))
adds_both read before between after one other h k =
    subst (Adds before after) (sym (flat_map-append read one other))
    (adds-then before between after (flat_map read one) (flat_map read other) h k)

-- the names of a formula of two operands
pub names_add : (a b : Expr) → formula_names (Add a b) ≡ formula_names a ++ formula_names b
names_add a b = ap formula_names (sym (rolls-Add a b)) ∙ simp fold-roll-Expr refl

pub names_sub : (a b : Expr) → formula_names (Sub a b) ≡ formula_names a ++ formula_names b
names_sub a b = ap formula_names (sym (rolls-Sub a b)) ∙ simp fold-roll-Expr refl

pub names_mul : (a b : Expr) → formula_names (Mul a b) ≡ formula_names a ++ formula_names b
names_mul a b = ap formula_names (sym (rolls-Mul a b)) ∙ simp fold-roll-Expr refl

pub names_div : (a b : Expr) → formula_names (Div a b) ≡ formula_names a ++ formula_names b
names_div a b = ap formula_names (sym (rolls-Div a b)) ∙ simp fold-roll-Expr refl

-- what two operands of a formula add
pub adds_operands : (names : List NameDef) (formula a b : Expr) (before between after : KeyList)
    (result : Result (Unit {0}) NoMemory)
    → formula_names formula ≡ formula_names a ++ formula_names b
    → Adds before between (flat_map (variable_keys names) (formula_names a))
    → OnOk result (Adds between after (flat_map (variable_keys names) (formula_names b)))
    → OnOk result (Adds before after (flat_map (variable_keys names) (formula_names formula)))
adds_operands names formula a b before between after (Ok done) e h k =
    subst (λ all. Adds before after (flat_map (variable_keys names) all)) (sym e)
    (adds_both (variable_keys names) before between after (formula_names a) (formula_names b) h k)
adds_operands names formula a b before between after (Err fault) e h k = tt

-- one more thing adds its keys
pub adds_more : {A : Type 0} (read : A → List Key) (before between after : KeyList)
    (so_far all : List A) (thing : A) → all ≡ so_far ++ thing ∷ []
    → Adds before between (flat_map read so_far) → Adds between after (read thing)
    → Adds before after (flat_map read all)
adds_more read before between after so_far all thing is h k =
    subst (λ list. Adds before after (flat_map read list)) (sym is)
    (subst (Adds before after) (sym (flat_map-append read so_far (thing ∷ [])))
    (adds-then before between after (flat_map read so_far) (flat_map read (thing ∷ [])) h
    (subst (Adds between after) (sym (append-nil (read thing))) k)))

-- ---- key order
insert_by : (o : Ordering) (key next : Key) (more later other : List Key) → later ≡ other
    → match_ordering o (key ∷ next ∷ more) (next ∷ more) (next ∷ later)
    ≡ placed_by o key next more other
insert_by Less key next more later other e = refl
insert_by Equal key next more later other e = refl
insert_by Greater key next more later other e = ap (λ list. next ∷ list) e

pub insert_is : (key : Key) (keys : List Key) → insert_key key_cmp keys key ≡ with_key key keys
unfolding with_key
insert_is key [] = refl
insert_is key (next ∷ more) =
    insert_by (key_cmp key next) key next more (insert_key key_cmp more key) (with_key key more)
    (insert_is key more)

pub none_ordered : (keys : List Key) (k : ℕ) → length keys ≤ k → [] ≡ in_key_order (drop k keys)
unfolding in_key_order
none_ordered keys k past = ap in_key_order (sym (drop_all k keys past))

pub one_ordered : (keys before after : List Key) (k : ℕ) (d : Key) → k < length keys
    → before ≡ in_key_order (drop (k + 1) keys)
    → after ≡ insert_key key_cmp before (get_or keys k d) → after ≡ in_key_order (drop k keys)
unfolding in_key_order
one_ordered keys before after k d within so_far is =
    is ∙ insert_is (get_or keys k d) before
    ∙ ap (with_key (get_or keys k d)) so_far
    ∙ ap in_key_order (sym (drop_more keys k d within))
