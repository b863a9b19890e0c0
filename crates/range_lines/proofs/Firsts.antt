-- The first key of keys in key order, piece by piece.
use Rattle.std.proofs.Common.{◌≡◌, ℕ, Bool, true, false, cond, List, [], ◌∷◌, ◌++◌, Option, None, Some, refl, sym, ap, ◌∙◌, true≢false}
use Rattle.std.specs.Prelude.{filter, option_map, slice_get}
use Rattle.std.specs.List.{flat_map}
use Rattle.std.specs.Cmp.{IsTotalOrder, on_total}
use Rattle.std.proofs.lemmas.Cmp.{nat_list_cmp_total}
use Rattle.std.proofs.lemmas.Grind.{flat_map-append}
use Rattle.std.proofs.lemmas.List.{append-nil}
use Rattle.std.proofs.lemmas.List.Elements.{filter-append}
use Rattle.std.proofs.lemmas.Option.{slice_get-map}
use Rattle.std.specs.Ordering.{is_lt, ordering_reverse}
use Rattle.std.specs.declared.cmp.Ordering.{Ordering}
use Rattle.std.specs.declared.cmp.Ordering.TheVariants.{Less, Equal, Greater}
use Rattle.rule_types.specs.Formulas.{formula_names}
use Rattle.rule_types.specs.KeyOrder.{key_place, key_cmp}
use Rattle.rule_types.specs.Reading.{name_keys, at_name, kind_key, kind_names, variable_keys}
use Rattle.rule_types.specs.Reading.{condition_reads, keys_read, right_keys, side_keys, side_names}
use Rattle.rule_types.specs.declared.condition.Condition.{Condition}
use Rattle.rule_types.specs.declared.condition.Side.TheVariants as side
use Rattle.rule_types.specs.declared.rule.Rule.{Rule}
use Rattle.rule_types.specs.declared.expr.Expr.{Expr}
use Rattle.rule_types.specs.declared.expr.Expr.TheVariants.{Add, Sub, Mul, Div, rolls-Add, rolls-Sub, rolls-Mul, rolls-Div}
use Rattle.rule_types.specs.declared.expr.Expr.TheFolds.{fold-roll-Expr}
use Rattle.rule_types.specs.declared.key.Key.{Key}
use Rattle.rule_types.specs.declared.names.NameDef.{NameDef}
use Rattle.range_lines.specs.Needs.{earlier_key, first_from, is_missing}
use Rattle.range_lines.specs.declared.given.Given.{Given}
use Rattle.range_lines.specs.internal.Views.{first_of, earlier_of, kind_keys, name_finds, held_or}

pub first-append : (found : Option Key) (one other : List Key)
    → first_from (first_from found one) other ≡ first_from found (one ++ other)
first-append found [] other = refl
first-append found (key ∷ one) other = first-append (earlier_key found key) one other

pub first_of-append : (given : Given) (found : Option Key) (one other : List Key)
    → first_of given (first_of given found one) other ≡ first_of given found (one ++ other)
first_of-append given found one other =
    first-append found (filter (is_missing given) one) (filter (is_missing given) other)
    ∙ ap (first_from found) (sym (filter-append (is_missing given) one other))

-- ---- the earlier of three keys, taken in either order
key_total : IsTotalOrder key_cmp
key_total = on_total key_place nat_list_cmp_total

abbrev lower : Key → Key → Key
lower a b = cond (is_lt (key_cmp b a)) b a

less_by : (o : Ordering) → is_lt o ≡ true → o ≡ Less
less_by Less e = refl
less_by Equal e = absurd (true≢false (sym e))
less_by Greater e = absurd (true≢false (sym e))

less-trans : (a b c : Key) → is_lt (key_cmp a b) ≡ true → is_lt (key_cmp b c) ≡ true → is_lt (key_cmp a c) ≡ true
less-trans a b c e f = ap is_lt (key_total.trans a b c (less_by (key_cmp a b) e) (less_by (key_cmp b c) f))

-- what is below a key is below one that is not below it
less-past : (y f x : Key) → is_lt (key_cmp y f) ≡ true → is_lt (key_cmp x f) ≡ false → is_lt (key_cmp y x) ≡ true
less-past y f x below not_below = by (key_cmp f x) refl
  where
    by : (o : Ordering) → key_cmp f x ≡ o → is_lt (key_cmp y x) ≡ true
    by Less is = ap is_lt (key_total.trans y f x (less_by (key_cmp y f) below) is)
    by Equal is =
        let back : key_cmp y x ≡ key_cmp y f =
        key_total.antisymm y x ∙ ap ordering_reverse (sym (key_total.congr f x y is)) ∙ sym (key_total.antisymm y f) in
        ap is_lt back ∙ below
    by Greater is = absurd (true≢false (sym (ap is_lt (key_total.antisymm x f ∙ ap ordering_reverse is)) ∙ not_below))

either : (f x y : Key) (p q r : Bool) → is_lt (key_cmp x f) ≡ p → is_lt (key_cmp y x) ≡ q → is_lt (key_cmp y f) ≡ r
    → lower (lower f x) y ≡ lower f (lower x y)
either f x y true true r ep eq er =
    ap (λ b. lower (cond b x f) y) ep ∙ ap (λ b. cond b y x) eq
    ∙ sym (ap (λ b. lower f (cond b y x)) eq ∙ ap (λ b. cond b y f) (less-trans y x f eq ep))
either f x y false true r ep eq er =
    ap (λ b. lower (cond b x f) y) ep ∙ sym (ap (λ b. lower f (cond b y x)) eq)
either f x y true false r ep eq er =
    ap (λ b. lower (cond b x f) y) ep ∙ ap (λ b. cond b y x) eq
    ∙ sym (ap (λ b. lower f (cond b y x)) eq ∙ ap (λ b. cond b x f) ep)
either f x y false false true ep eq er = absurd (true≢false (sym (less-past y f x er ep) ∙ eq))
either f x y false false false ep eq er =
    ap (λ b. lower (cond b x f) y) ep ∙ ap (λ b. cond b y f) er
    ∙ sym (ap (λ b. lower f (cond b y x)) eq ∙ ap (λ b. cond b x f) ep)

lower-assoc : (f x y : Key) → lower (lower f x) y ≡ lower f (lower x y)
lower-assoc f x y = either f x y (is_lt (key_cmp x f)) (is_lt (key_cmp y x)) (is_lt (key_cmp y f)) refl refl refl

earlier_is : (f x : Key) → earlier_key (Some f) x ≡ Some (lower f x)
earlier_is f x = by (is_lt (key_cmp x f))
  where
    by : (b : Bool) → cond b (Some x) (Some f) ≡ Some (cond b x f)
    by true = refl
    by false = refl

-- a find behind another
earlier-assoc : (found : Option Key) (x : Key) (rest : Option Key)
    → earlier_of (earlier_key found x) rest ≡ earlier_of found (earlier_of (Some x) rest)
earlier-assoc found x None = refl
earlier-assoc None x (Some y) = earlier_is x y ∙ sym (ap (earlier_of None) (earlier_is x y))
earlier-assoc (Some f) x (Some y) =
    ap (λ k. earlier_of k (Some y)) (earlier_is f x) ∙ earlier_is (lower f x) y
    ∙ ap Some (lower-assoc f x y)
    ∙ sym (ap (earlier_of (Some f)) (earlier_is x y) ∙ earlier_is f (lower x y))

-- keys behind a find: the earlier of it and of what is found among them alone
pub first-found : (found : Option Key) (keys : List Key)
    → first_from found keys ≡ earlier_of found (first_from None keys)
first-found found [] = refl
first-found found (x ∷ keys) =
    first-found (earlier_key found x) keys
    ∙ earlier-assoc found x (first_from None keys)
    ∙ ap (earlier_of found) (sym (first-found (Some x) keys))

-- ---- names
-- the keys that a name reads are those of what it stands for
keys_at : (names : List NameDef) (at : Option NameDef)
    → at_name kind_key at ++ flat_map (variable_keys names) (at_name kind_names at)
    ≡ at_name (kind_keys names) at
keys_at names None = refl
keys_at names (Some named) = refl

-- what is found for a name, where the finds for all names are at hand
found_at : (given : Given) (names : List NameDef) (found : Option Key) (at : Option NameDef)
    (held : Option (Option Key))
    → held ≡ option_map (λ named. first_of given None (kind_keys names named.stands_for)) at
    → earlier_of found (first_of given None (at_name (kind_keys names) at))
    ≡ earlier_of found (held_or held)
found_at given names found None held e = ap (λ h. earlier_of found (held_or h)) (sym e)
found_at given names found (Some named) held e = ap (λ h. earlier_of found (held_or h)) (sym e)

pub name_found : (given : Given) (names : List NameDef) (finds : List (Option Key))
    (found : Option Key) (name : ℕ) → finds ≡ name_finds given names names
    → first_of given found (flat_map (name_keys names) (name ∷ []))
    ≡ earlier_of found (held_or (slice_get finds name))
name_found given names finds found name e =
    ap (first_of given found) (append-nil (name_keys names name) ∙ keys_at names (slice_get names name))
    ∙ first-found found (filter (is_missing given) (at_name (kind_keys names) (slice_get names name)))
    ∙ found_at given names found (slice_get names name) (slice_get finds name)
    (ap (λ list. slice_get list name) e
    ∙ slice_get-map (λ named. first_of given None (kind_keys names named.stands_for)) names name)

-- ---- formulas of two operands
names_add : (a b : Expr) → formula_names (Add a b) ≡ formula_names a ++ formula_names b
names_add a b = ap formula_names (sym (rolls-Add a b)) ∙ simp fold-roll-Expr refl

names_sub : (a b : Expr) → formula_names (Sub a b) ≡ formula_names a ++ formula_names b
names_sub a b = ap formula_names (sym (rolls-Sub a b)) ∙ simp fold-roll-Expr refl

names_mul : (a b : Expr) → formula_names (Mul a b) ≡ formula_names a ++ formula_names b
names_mul a b = ap formula_names (sym (rolls-Mul a b)) ∙ simp fold-roll-Expr refl

names_div : (a b : Expr) → formula_names (Div a b) ≡ formula_names a ++ formula_names b
names_div a b = ap formula_names (sym (rolls-Div a b)) ∙ simp fold-roll-Expr refl

both_operands : (given : Given) (names : List NameDef) (formula a b : Expr)
    (found between result : Option Key) → formula_names formula ≡ formula_names a ++ formula_names b
    → between ≡ first_of given found (flat_map (variable_keys names) (formula_names a))
    → result ≡ first_of given between (flat_map (variable_keys names) (formula_names b))
    → result ≡ first_of given found (flat_map (variable_keys names) (formula_names formula))
both_operands given names formula a b found between result e h k =
    k ∙ ap (λ f. first_of given f (flat_map (variable_keys names) (formula_names b))) h
    ∙ first_of-append given found (flat_map (variable_keys names) (formula_names a)) (flat_map (variable_keys names) (formula_names b))
    ∙ ap (first_of given found) (sym (flat_map-append (variable_keys names) (formula_names a) (formula_names b)))
    ∙ ap (λ all. first_of given found (flat_map (variable_keys names) all)) (sym e)

pub both_add : (given : Given) (names : List NameDef) (formula a b : Expr)
    (found between result : Option Key) → formula ≡ Add a b
    → between ≡ first_of given found (flat_map (variable_keys names) (formula_names a))
    → result ≡ first_of given between (flat_map (variable_keys names) (formula_names b))
    → result ≡ first_of given found (flat_map (variable_keys names) (formula_names formula))
both_add given names formula a b found between result is =
    both_operands given names formula a b found between result (ap formula_names is ∙ names_add a b)

pub both_sub : (given : Given) (names : List NameDef) (formula a b : Expr)
    (found between result : Option Key) → formula ≡ Sub a b
    → between ≡ first_of given found (flat_map (variable_keys names) (formula_names a))
    → result ≡ first_of given between (flat_map (variable_keys names) (formula_names b))
    → result ≡ first_of given found (flat_map (variable_keys names) (formula_names formula))
both_sub given names formula a b found between result is =
    both_operands given names formula a b found between result (ap formula_names is ∙ names_sub a b)

pub both_mul : (given : Given) (names : List NameDef) (formula a b : Expr)
    (found between result : Option Key) → formula ≡ Mul a b
    → between ≡ first_of given found (flat_map (variable_keys names) (formula_names a))
    → result ≡ first_of given between (flat_map (variable_keys names) (formula_names b))
    → result ≡ first_of given found (flat_map (variable_keys names) (formula_names formula))
both_mul given names formula a b found between result is =
    both_operands given names formula a b found between result (ap formula_names is ∙ names_mul a b)

pub both_div : (given : Given) (names : List NameDef) (formula a b : Expr)
    (found between result : Option Key) → formula ≡ Div a b
    → between ≡ first_of given found (flat_map (variable_keys names) (formula_names a))
    → result ≡ first_of given between (flat_map (variable_keys names) (formula_names b))
    → result ≡ first_of given found (flat_map (variable_keys names) (formula_names formula))
both_div given names formula a b found between result is =
    both_operands given names formula a b found between result (ap formula_names is ∙ names_div a b)

-- ---- conditions and rules
pub condition_more : (given : Given) (names : List NameDef) (found : Option Key) (c : Condition)
    (later : List Condition)
    → first_of given (first_of given found (condition_reads names c)) (flat_map (condition_reads names) later)
    ≡ first_of given found (flat_map (condition_reads names) (c ∷ later))
condition_more given names found c later =
    first_of-append given found (condition_reads names c) (flat_map (condition_reads names) later)

pub rule_more : (given : Given) (names : List NameDef) (found : Option Key) (rule : Rule)
    (later : List Rule)
    → first_of given (first_of given found (flat_map (condition_reads names) rule.conditions)) (keys_read names later)
    ≡ first_of given found (keys_read names (rule ∷ later))
rule_more given names found rule later =
    first_of-append given found (flat_map (condition_reads names) rule.conditions) (keys_read names later)

-- the two sides of a condition, where the left one is a key
pub key_side : (given : Given) (names : List NameDef) (found : Option Key) (c : Condition) (key : Key)
    → c.left ≡ side.Key key
    → first_of given (first_of given found (key ∷ [])) (right_keys c.right)
    ≡ first_of given found (condition_reads names c)
key_side given names found c key is =
    first_of-append given found (key ∷ []) (right_keys c.right)
    ∙ ap (first_of given found) (sym (append-nil ((key ∷ []) ++ right_keys c.right))
    ∙ ap (λ left. (side_keys left ++ right_keys c.right) ++ flat_map (name_keys names) (side_names left)) (sym is))

-- the same, where it is a name
pub name_side : (given : Given) (names : List NameDef) (found : Option Key) (c : Condition) (name : ℕ)
    → c.left ≡ side.Expr name
    → first_of given (first_of given found (right_keys c.right)) (flat_map (name_keys names) (name ∷ []))
    ≡ first_of given found (condition_reads names c)
name_side given names found c name is =
    first_of-append given found (right_keys c.right) (flat_map (name_keys names) (name ∷ []))
    ∙ ap (first_of given found)
    (ap (λ left. (side_keys left ++ right_keys c.right) ++ flat_map (name_keys names) (side_names left)) (sym is))
