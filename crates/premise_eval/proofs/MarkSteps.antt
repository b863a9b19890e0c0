-- Marks of the names that rules use.
use Rattle.std.proofs.Common.{◌≡◌, ◌≢◌, ℕ, ◌+◌, ◌<◌, ◌≤◌, ◌==◌, eqb, Bool, true, false, ◌||◌}
use Rattle.std.proofs.Common.{List, [], ◌∷◌, ◌++◌, length, get_or, set, take, replicate, refl, sym, ap, subst, ◌∙◌, arith}
use Rattle.std.proofs.lemmas.Bool.Decides.{nat_tests}
use Rattle.std.proofs.lemmas.Grind.{flat_map-append}
use Rattle.std.proofs.lemmas.List.{get_or-set_same, get_or-set_other, get_or-replicate, length-replicate, take_more, take_all, append-nil}
use Rattle.std.proofs.lemmas.List.Elements.{filter_map-append}
use Rattle.std.proofs.lemmas.List.Folds.{list_any-append}
use Rattle.std.proofs.lemmas.Option.{slice_get-get_or}
use Rattle.std.specs.Prelude.{slice_get, filter_map}
use Rattle.std.specs.List.{flat_map, list_any, cons_option}
use Rattle.rule_types.specs.declared.condition.Condition.{Condition}
use Rattle.rule_types.specs.declared.condition.Side.{Side}
use Rattle.rule_types.specs.declared.condition.Side.TheVariants as side
use Rattle.rule_types.specs.declared.names.NameDef.{NameDef}
use Rattle.exact_fraction.specs.Number.{Rational}
use Rattle.rule_types.specs.declared.expr.Expr.{Expr}
use Rattle.rule_types.specs.declared.expr.Expr.TheVariants.{Number, Add, Sub, Mul, Div, rolls-Number, rolls-Add, rolls-Sub, rolls-Mul, rolls-Div}
use Rattle.rule_types.specs.declared.expr.Expr.TheFolds.{fold-roll-Expr}
use Rattle.rule_types.specs.Formulas.{formula_names}
use Rattle.rule_types.specs.declared.rule.Rule.{Rule}
use Rattle.rule_types.specs.declared.rules.Rules.{Rules}
use Rattle.rule_types.specs.Reading.{at_name, kind_names, side_names, rule_names, used_names}
use Rattle.rule_meaning.specs.Formula.{is_used}
use Rattle.rule_meaning.specs.SomeRules.{rules_at}
use Rattle.premise_eval.specs.Kept.{marked, MarksAre, MarksUsed}
use Rattle.premise_eval.specs.internal.Marks.{MarksNames, name_uses, uses_of, rule_uses}

-- ---- marks
or_false : (b : Bool) → b ≡ (b || false)
or_false true = refl
or_false false = refl

pub more_none : (marks : List Bool) → MarksNames [] marks marks
unfolding MarksNames
more_none marks at within = or_false (marked marks at)

or_both : (a b c d e : Bool) → b ≡ (a || d) → c ≡ (b || e) → c ≡ (a || (d || e))
or_both true b c d e f g = g ∙ ap (λ t. t || e) f
or_both false b c d e f g = g ∙ ap (λ t. t || e) f

pub more_two : (names others : List ℕ) (old mid new : List Bool) → MarksNames names old mid
    → MarksNames others mid new → length mid ≡ length old → MarksNames (names ++ others) old new
unfolding MarksNames
more_two names others old mid new first second long at within =
    or_both (marked old at) (marked mid at) (marked new at) (list_any (λ other. at == other) names) (list_any (λ other. at == other) others)
    (first at within) (second at (omega (arith, long, within)))
    ∙ ap (λ t. marked old at || t) (sym (list_any-append (λ other. at == other) names others))

one_by : (t a b : Bool) (P : Bool) → t ≡ true → true ≡ (a || (t || P))
one_by true true b P e = refl
one_by true false b P e = refl
one_by false a b P e = grind arith

no_by : (t a : Bool) → t ≡ false → a ≡ (a || (t || false))
no_by true a e = grind arith
no_by false true e = refl
no_by false false e = refl

pub mark_here : (marks : List Bool) (name : ℕ) → name < length marks
    → MarksNames (name ∷ []) marks (set marks name true)
unfolding MarksNames
mark_here marks name within at below = by_test (eqb at name) refl
  where
    by_test : (t : Bool) → eqb at name ≡ t → marked (set marks name true) at ≡ (marked marks at || list_any (λ other. at == other) (name ∷ []))
    by_test true e =
        let same : at ≡ name = grind (arith, nat_tests) in
        ap (λ n. marked (set marks name true) n) same ∙ get_or-set_same marks name true false within
        ∙ one_by (at == name) (marked marks at) true false e
    by_test false e =
        let apart : at ≢ name = grind (arith, nat_tests) in
        get_or-set_other marks name at true false apart ∙ no_by (at == name) (marked marks at) e

pub mark_past : (marks : List Bool) (name : ℕ) → length marks ≤ name
    → MarksNames (name ∷ []) marks marks
unfolding MarksNames
mark_past marks name past at below =
    let apart : (at == name) ≡ false = grind (arith, nat_tests) in
    no_by (at == name) (marked marks at) apart

-- ---- the parts of a formula
pub names_number : (q : Rational) → formula_names (Number q) ≡ []
names_number q = ap formula_names (sym (rolls-Number q)) ∙ simp fold-roll-Expr refl

pub names_add : (a b : Expr) → formula_names (Add a b) ≡ formula_names a ++ formula_names b
names_add a b = ap formula_names (sym (rolls-Add a b)) ∙ simp fold-roll-Expr refl

pub names_sub : (a b : Expr) → formula_names (Sub a b) ≡ formula_names a ++ formula_names b
names_sub a b = ap formula_names (sym (rolls-Sub a b)) ∙ simp fold-roll-Expr refl

pub names_mul : (a b : Expr) → formula_names (Mul a b) ≡ formula_names a ++ formula_names b
names_mul a b = ap formula_names (sym (rolls-Mul a b)) ∙ simp fold-roll-Expr refl

pub names_div : (a b : Expr) → formula_names (Div a b) ≡ formula_names a ++ formula_names b
names_div a b = ap formula_names (sym (rolls-Div a b)) ∙ simp fold-roll-Expr refl

-- ---- the parts of a condition
pub key_marks : (names : List NameDef) (c : Condition) (given : Side) (marks : List Bool)
    → c.left ≡ given → side_names given ≡ [] → MarksNames (uses_of names c) marks marks
unfolding uses_of
key_marks names c given marks is none =
    subst (λ l. MarksNames (flat_map (name_uses names) l) marks marks)
    (sym (ap side_names is ∙ none)) (more_none marks)

pub name_marks : (names : List NameDef) (c : Condition) (name : ℕ) (old new : List Bool)
    → c.left ≡ side.Expr name → MarksNames (name_uses names name) old new
    → MarksNames (uses_of names c) old new
unfolding uses_of
name_marks names c name old new is marks =
    subst (λ l. MarksNames l old new)
    (sym (ap (λ given. flat_map (name_uses names) (side_names given)) is ∙ append-nil (name_uses names name))) marks

-- ---- one more of a list
pub more_items : {A : Type 0} (f : A → List ℕ) (xs : List A) (i : ℕ) (d : A) (old mid new : List Bool)
    → i < length xs → MarksNames (flat_map f (take i xs)) old mid → MarksNames (f (get_or xs i d)) mid new
    → length mid ≡ length old → MarksNames (flat_map f (take (i + 1) xs)) old new
more_items f xs i d old mid new within first second long =
    let more : flat_map f (take (i + 1) xs) ≡ flat_map f (take i xs) ++ f (get_or xs i d) =
    ap (flat_map f) (take_more xs i d within)
    ∙ flat_map-append f (take i xs) (get_or xs i d ∷ [])
    ∙ ap (λ l. flat_map f (take i xs) ++ l) (append-nil (f (get_or xs i d))) in
    rw more (more_two (flat_map f (take i xs)) (f (get_or xs i d)) old mid new first second long)

-- with the item as the code has it
pub more_item : {A : Type 0} (f : A → List ℕ) (xs items : List A) (i : ℕ) (one : A) (old mid new : List Bool)
    → items ≡ xs → i < length items → one ≡ get_or items i one
    → MarksNames (flat_map f (take i xs)) old mid → MarksNames (f one) mid new
    → length mid ≡ length old → MarksNames (flat_map f (take (i + 1) xs)) old new
more_item f xs items i one old mid new same within is first second long =
    let here : one ≡ get_or xs i one = is ∙ ap (λ l. get_or l i one) same in
    let inside : i < length xs = omega (arith, within, ap length same) in
    more_items f xs i one old mid new inside first (subst (λ y. MarksNames (f y) mid new) here second) long

pub all_items : {A : Type 0} (f : A → List ℕ) (xs items : List A) (i : ℕ) (old new : List Bool)
    → items ≡ xs → length items ≤ i → MarksNames (flat_map f (take i xs)) old new
    → MarksNames (flat_map f xs) old new
all_items f xs items i old new same past marks =
    subst (λ l. MarksNames (flat_map f l) old new) (take_all i xs (omega (arith, past, ap length same))) marks

pub all_of_rule : (names : List NameDef) (rule : Rule) (items : List Condition) (i : ℕ) (old new : List Bool)
    → items ≡ rule.conditions → length items ≤ i
    → MarksNames (flat_map (uses_of names) (take i rule.conditions)) old new
    → MarksNames (rule_uses names rule) old new
unfolding rule_uses
all_of_rule names rule items i old new same past marks = all_items (uses_of names) rule.conditions items i old new same past marks

-- ---- the names that rules use
fused : {A : Type 0} (f : ℕ → List ℕ) (h : A → List ℕ) (xs : List A)
    → flat_map (λ x. flat_map f (h x)) xs ≡ flat_map f (flat_map h xs)
fused f h [] = refl
fused f h (x ∷ xs) =
    ap (λ l. flat_map f (h x) ++ l) (fused f h xs) ∙ sym (flat_map-append f (h x) (flat_map h xs))

same_items : {A : Type 0} (f g : A → List ℕ) (xs : List A) → ((x : A) → f x ≡ g x)
    → flat_map f xs ≡ flat_map g xs
same_items f g [] h = refl
same_items f g (x ∷ xs) h = ap (λ l. l ++ flat_map f xs) (h x) ∙ ap (λ l. g x ++ l) (same_items f g xs h)

rule_names_uses : (names : List NameDef) (rule : Rule)
    → rule_uses names rule ≡ flat_map (name_uses names) (rule_names rule)
unfolding rule_uses uses_of
rule_names_uses names rule =
    fused (name_uses names) (λ (c : Condition). side_names c.left) rule.conditions

or_nothing : (a b c d : Bool) → ((a || b) || (c || d)) ≡ ((a || c) || (b || d))
or_nothing true b c d = refl
or_nothing false true true d = refl
or_nothing false true false d = refl
or_nothing false false c d = refl

uses_by : (p : ℕ → Bool) (g : ℕ → List ℕ) (ns : List ℕ)
    → list_any p (flat_map (λ n. n ∷ g n) ns) ≡ (list_any p ns || list_any p (flat_map g ns))
uses_by p g [] = refl
uses_by p g (n ∷ ns) =
    list_any-append p (n ∷ g n) (flat_map (λ m. m ∷ g m) ns)
    ∙ ap (λ t. list_any p (n ∷ g n) || t) (uses_by p g ns)
    ∙ or_nothing (p n) (list_any p (g n)) (list_any p ns) (list_any p (flat_map g ns))
    ∙ ap (λ t. list_any p (n ∷ ns) || t) (sym (list_any-append p (g n) (flat_map g ns)))

uses_same : (names : List NameDef) (rules : List Rule) (at : ℕ)
    → list_any (λ other. at == other) (flat_map (rule_uses names) rules)
    ≡ list_any (λ other. at == other) (used_names names rules)
uses_same names rules at =
    ap (list_any (λ other. at == other))
    (same_items (rule_uses names) (λ rule. flat_map (name_uses names) (rule_names rule)) rules (rule_names_uses names)
    ∙ fused (name_uses names) rule_names rules)
    ∙ uses_by (λ other. at == other) (λ name. at_name kind_names (slice_get names name)) (flat_map rule_names rules)
    ∙ sym (list_any-append (λ other. at == other) (flat_map rule_names rules)
    (flat_map (λ name. at_name kind_names (slice_get names name)) (flat_map rule_names rules)))

pub all_marked : (x : Rules) (rules : List Rule) (n : ℕ) (old new : List Bool)
    → old ≡ replicate n false → n ≡ length x.names → MarksNames (flat_map (rule_uses x.names) rules) old new
    → MarksUsed x rules new
unfolding MarksNames MarksAre is_used
all_marked x rules n old new clear long marks at within =
    let blank : marked old at ≡ false = ap (λ l. marked l at) clear ∙ get_or-replicate n at false false (omega (arith, within, long)) in
    let size : length old ≡ n = ap length clear ∙ length-replicate n false in
    marks at (omega (arith, within, long, size))
    ∙ ap (λ t. t || list_any (λ other. at == other) (flat_map (rule_uses x.names) rules)) blank
    ∙ uses_same x.names rules at

-- the rules of some numbers, one more
pub one_more_rule : (rules : List Rule) (numbers : List ℕ) (i : ℕ) (d : Rule)
    → i < length numbers → get_or numbers i 0 < length rules
    → rules_at rules (take (i + 1) numbers)
    ≡ rules_at rules (take i numbers) ++ get_or rules (get_or numbers i 0) d ∷ []
one_more_rule rules numbers i d within exists =
    ap (filter_map (slice_get rules)) (take_more numbers i 0 within)
    ∙ filter_map-append (slice_get rules) (take i numbers) (get_or numbers i 0 ∷ [])
    ∙ ap (λ o. rules_at rules (take i numbers) ++ cons_option o []) (slice_get-get_or rules (get_or numbers i 0) d exists)

pub more_rules : (x : Rules) (numbers : List ℕ) (i : ℕ) (one : Rule) (all : List Rule)
    (names : List NameDef) (old mid new : List Bool)
    → all ≡ x.rules → names ≡ x.names → i < length numbers → get_or numbers i 0 < length x.rules
    → one ≡ get_or all (get_or numbers i 0) one
    → MarksNames (flat_map (rule_uses x.names) (rules_at x.rules (take i numbers))) old mid
    → MarksNames (rule_uses names one) mid new
    → length mid ≡ length old
    → MarksNames (flat_map (rule_uses x.names) (rules_at x.rules (take (i + 1) numbers))) old new
more_rules x numbers i one all names old mid new same named within exists is first second long =
    let here : one ≡ get_or x.rules (get_or numbers i 0) one = is ∙ ap (λ l. get_or l (get_or numbers i 0) one) same in
    let more : flat_map (rule_uses x.names) (rules_at x.rules (take (i + 1) numbers))
    ≡ flat_map (rule_uses x.names) (rules_at x.rules (take i numbers)) ++ rule_uses x.names one =
    ap (flat_map (rule_uses x.names)) (one_more_rule x.rules numbers i one within exists)
    ∙ flat_map-append (rule_uses x.names) (rules_at x.rules (take i numbers)) (get_or x.rules (get_or numbers i 0) one ∷ [])
    ∙ ap (λ l. flat_map (rule_uses x.names) (rules_at x.rules (take i numbers)) ++ l) (append-nil (rule_uses x.names (get_or x.rules (get_or numbers i 0) one)) ∙ ap (rule_uses x.names) (sym here)) in
    rw more (more_two (flat_map (rule_uses x.names) (rules_at x.rules (take i numbers))) (rule_uses x.names one) old mid new first
    (subst (λ l. MarksNames (rule_uses l one) mid new) named second) long)

pub all_rules : (x : Rules) (numbers : List ℕ) (i : ℕ) (n : ℕ) (old new : List Bool)
    → old ≡ replicate n false → n ≡ length x.names → length numbers ≤ i
    → MarksNames (flat_map (rule_uses x.names) (rules_at x.rules (take i numbers))) old new
    → MarksUsed x (rules_at x.rules numbers) new
all_rules x numbers i n old new clear long past marks =
    all_marked x (rules_at x.rules numbers) n old new clear long
    (subst (λ l. MarksNames (flat_map (rule_uses x.names) (rules_at x.rules l)) old new) (take_all i numbers past) marks)
