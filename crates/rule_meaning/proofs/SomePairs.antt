-- Questions that read some of the rules.
use Rattle.std.proofs.Common.{◌≡◌, ℕ, zero as nothing, suc, ◌<◌, ◌==◌, Bool, true, false, not, ◌&&◌}
use Rattle.std.proofs.Common.{◌||◌, Option, Some, None, length}
use Rattle.std.proofs.Common.{List, [], ◌∷◌, ◌++◌, find, filter, flat_map, refl, ap, sym}
use Rattle.std.proofs.Common.{◌∙◌, arith, cond, true≢false}
use Rattle.std.proofs.lemmas.Bool.Decides.{nat_tests}
use Rattle.std.proofs.lemmas.List.Folds.{list_any-append}
use Rattle.std.proofs.lemmas.Option.{none-some, same_Some}
use Rattle.std.specs.Prelude.{IsTrue, slice_get}
use Rattle.std.proofs.lemmas.List.Elements.{recursion_from_All}
use Rattle.std.specs.List.{All, AllByRecursion, cons_option, list_all, list_any}
use Rattle.rule_types.specs.declared.action.Action.{Action}
use Rattle.rule_types.specs.declared.action.ActionAt.{ActionAt}
use Rattle.rule_types.specs.declared.action.Branch.{Branch}
use Rattle.rule_types.specs.declared.action.Branch.TheVariants.{Then, Otherwise}
use Rattle.rule_types.specs.declared.condition.Condition.{Condition}
use Rattle.rule_types.specs.declared.condition.Side.TheVariants as side
use Rattle.rule_types.specs.declared.names.NameDef.{NameDef}
use Rattle.rule_types.specs.declared.rule.Rule.{Rule}
use Rattle.rule_types.specs.declared.rules.Rules.{Rules}
use Rattle.rule_types.specs.declared.state.State.{State}
use Rattle.rule_types.specs.Reading.{side_names, rule_names}
use Rattle.rule_types.specs.Reading.{branch_actions, at_name, kind_names}
use Rattle.rule_meaning.specs.Formula.{is_used, stop_from}
use Rattle.rule_meaning.specs.Premise.{listed, listed_among}
use Rattle.rule_meaning.specs.Settled.{branch_action, action_at, acts_on, is_on, beats, is_unbeaten}
use Rattle.rule_meaning.specs.Settled.{is_settled, settled_on}
use Rattle.rule_meaning.specs.SomeRules.{rules_at, is_among, rule_acts_on, HaveRulesOn}

-- ---- lists without what does not pass
all_kept_by : (a b c d : Bool) → (a ≡ false → b ≡ true) → c ≡ d → cond a (b && c) c ≡ (b && d)
all_kept_by true b c d free e = ap (λ z. b && z) e
all_kept_by false b c d free e = e ∙ ap (λ z. z && d) (sym (free refl))

all_of_cond : {A : Type 0} (test : A → Bool) (b : Bool) (x : A) (xs : List A)
    → list_all test (cond b (x ∷ xs) xs) ≡ cond b (test x && list_all test xs) (list_all test xs)
all_of_cond test true x xs = refl
all_of_cond test false x xs = refl

all_kept : {A : Type 0} (passes test : A → Bool) (xs : List A)
    → ((x : A) → passes x ≡ false → test x ≡ true)
    → list_all test (filter passes xs) ≡ list_all test xs
all_kept passes test [] free = refl
all_kept passes test (x ∷ xs) free =
    all_of_cond test (passes x) x (filter passes xs)
    ∙ all_kept_by (passes x) (test x) (list_all test (filter passes xs)) (list_all test xs) (free x)
    (all_kept passes test xs free)

found_kept_by : {A : Type 0} (a b : Bool) (u v w : Option A) → (a ≡ false → b ≡ false) → v ≡ w
    → cond a (cond b u v) v ≡ cond b u w
found_kept_by true b u v w off e = ap (cond b u) e
found_kept_by false b u v w off e = e ∙ ap (λ c. cond c u w) (sym (off refl))

found_of_cond : {A : Type 0} (test : A → Bool) (b : Bool) (x : A) (xs : List A)
    → find test (cond b (x ∷ xs) xs) ≡ cond b (cond (test x) (Some x) (find test xs)) (find test xs)
found_of_cond test true x xs = refl
found_of_cond test false x xs = refl

found_kept : {A : Type 0} (passes test : A → Bool) (xs : List A)
    → ((x : A) → passes x ≡ false → test x ≡ false)
    → find test (filter passes xs) ≡ find test xs
found_kept passes test [] off = refl
found_kept passes test (x ∷ xs) off =
    found_of_cond test (passes x) x (filter passes xs)
    ∙ found_kept_by (passes x) (test x) (Some x) (find test (filter passes xs)) (find test xs)
    (off x) (found_kept passes test xs off)

-- ---- settled pairs without the pairs on other links
off_link : (a b : Bool) → a ≡ false → not (a && b) ≡ true
off_link true b h = absurd (true≢false h)
off_link false b h = refl

off_settled : (a b : Bool) → a ≡ false → (a && b) ≡ false
off_settled true b h = absurd (true≢false h)
off_settled false b h = refl

same_test : (rules : List Rule) (passes : ActionAt → Bool) (pairs : List ActionAt) (link : ℕ)
    (p : ActionAt)
    → ((q : ActionAt) → passes q ≡ false → is_on rules link q ≡ false)
    → is_settled rules (filter passes pairs) link p ≡ is_settled rules pairs link p
unfolding is_settled is_unbeaten
same_test rules passes pairs link p off =
    ap (λ z. is_on rules link p && z)
    (all_kept passes (λ q. not (is_on rules link q && beats rules q p)) pairs
    (λ q h. off_link (is_on rules link q) (beats rules q p) (off q h)))

settled_off : (rules : List Rule) (pairs : List ActionAt) (link : ℕ) (p : ActionAt)
    → is_on rules link p ≡ false
    → is_settled rules pairs link p ≡ false
unfolding is_settled
settled_off rules pairs link p h =
    off_settled (is_on rules link p) (is_unbeaten rules pairs link p) h

settled_kept : (rules : List Rule) (passes : ActionAt → Bool) (pairs : List ActionAt) (link : ℕ)
    → ((q : ActionAt) → passes q ≡ false → is_on rules link q ≡ false)
    → settled_on rules (filter passes pairs) link ≡ settled_on rules pairs link
unfolding settled_on
settled_kept rules passes pairs link off =
    ap (λ test. find test (filter passes pairs)) (λ i p. same_test rules passes pairs link p off i)
    ∙ found_kept passes (is_settled rules pairs link) pairs
    (λ p h. settled_off rules pairs link p (off p h))

-- ---- a pair on a link has a rule that acts there
any_first : (a b c : Bool) → (a || b) ≡ c → a ≡ true → c ≡ true
any_first true b c e h = sym e
any_first false b c e h = absurd (true≢false (sym h))

any_later : (a b c : Bool) → (a || b) ≡ c → b ≡ true → c ≡ true
any_later true b c e h = sym e
any_later false b c e h = sym e ∙ h

any_front : {A : Type 0} (test : A → Bool) (xs ys : List A) → list_any test xs ≡ true
    → list_any test (xs ++ ys) ≡ true
any_front test xs ys h =
    any_first (list_any test xs) (list_any test ys) _ (sym (list_any-append test xs ys)) h

any_behind : {A : Type 0} (test : A → Bool) (xs ys : List A) → list_any test ys ≡ true
    → list_any test (xs ++ ys) ≡ true
any_behind test xs ys h =
    any_later (list_any test xs) (list_any test ys) _ (sym (list_any-append test xs ys)) h

any_at : {A : Type 0} (test : A → Bool) (xs : List A) (k : ℕ) (x : A) → slice_get xs k ≡ Some x
    → test x ≡ true
    → list_any test xs ≡ true
any_at test [] k x is h = absurd (none-some x is)
any_at test (y ∷ ys) nothing x is h =
    any_first (test y) (list_any test ys) _ refl (ap test (same_Some y x is) ∙ h)
any_at test (y ∷ ys) (suc k) x is h =
    any_later (test y) (list_any test ys) _ refl (any_at test ys k x is h)

branch_on : (link : ℕ) (actions : List Action) (k : ℕ) (o : Option Action) → slice_get actions k ≡ o
    → acts_on link o ≡ true
    → list_any (λ action. action.link == link) actions ≡ true
branch_on link actions k None is h = absurd (true≢false (sym h))
branch_on link actions k (Some action) is h =
    any_at (λ action. action.link == link) actions k action is h

rule_on : (link : ℕ) (rule : Rule) (branch : Branch) (k : ℕ)
    → acts_on link (slice_get (branch_actions rule branch) k) ≡ true
    → rule_acts_on link rule ≡ true
rule_on link rule Then k h =
    any_front (λ action. action.link == link) rule.then_actions rule.else_actions
    (branch_on link rule.then_actions k (slice_get rule.then_actions k) refl h)
rule_on link rule Otherwise k h =
    any_behind (λ action. action.link == link) rule.then_actions rule.else_actions
    (branch_on link rule.else_actions k (slice_get rule.else_actions k) refl h)

among_by : (rules : List Rule) (link : ℕ) (numbers : List ℕ) (at : ActionAt) (o : Option Rule)
    → slice_get rules at.rule ≡ o
    → HaveRulesOn rules link numbers → acts_on link (branch_action at o) ≡ true
    → is_among numbers at.rule ≡ true
among_by rules link numbers at None is have h = absurd (true≢false (sym h))
among_by rules link numbers at (Some rule) is have h =
    have.each at.rule rule is (rule_on link rule at.branch at.action h)

among_rules : (rules : List Rule) (link : ℕ) (numbers : List ℕ) (at : ActionAt)
    → HaveRulesOn rules link numbers
    → is_on rules link at ≡ true → is_among numbers at.rule ≡ true
unfolding is_on action_at
among_rules rules link numbers at have h =
    among_by rules link numbers at (slice_get rules at.rule) refl have h

contrary : (a b : Bool) → (a ≡ true → b ≡ true) → b ≡ false → a ≡ false
contrary true b h g = absurd (true≢false (sym (h refl) ∙ g))
contrary false b h g = refl

pub settled_among : (rules : List Rule) (pairs : List ActionAt) (link : ℕ) (numbers : List ℕ)
    → HaveRulesOn rules link numbers
    → settled_on rules (filter (λ at. is_among numbers at.rule) pairs) link
    ≡ settled_on rules pairs link
settled_among rules pairs link numbers have =
    settled_kept rules (λ at. is_among numbers at.rule) pairs link
    (λ q h. contrary (is_on rules link q) (is_among numbers q.rule)
    (among_rules rules link numbers q have) h)

pub listed_settled : (x : Rules) (s : State) (link : ℕ) (numbers : List ℕ)
    → HaveRulesOn x.rules link numbers
    → settled_on x.rules (listed_among numbers x s) link ≡ settled_on x.rules (listed x s) link
unfolding listed_among
listed_settled x s link numbers have = settled_among x.rules (listed x s) link numbers have

-- ---- some of the rules
some_at : {A : Type 0} (xs : List A) (n : ℕ) → n < length xs → (x : A) × (slice_get xs n ≡ Some x)
some_at [] n h = absurd (omega (arith, h))
some_at (x ∷ xs) nothing h = (x, refl)
some_at (x ∷ xs) (suc n) h = some_at xs n (omega (arith, h))

rule_by : (rules : List Rule) (numbers : List ℕ) (k number : ℕ)
    → AllByRecursion (λ n. n < length rules) numbers → slice_get numbers k ≡ Some number
    → slice_get (rules_at rules numbers) k ≡ slice_get rules number
rule_by rules [] k number h is = absurd (none-some number is)
rule_by rules (n ∷ numbers) nothing number h is =
    let found = some_at rules n h.0 in
    ap (λ o. slice_get (cons_option o (rules_at rules numbers)) 0) found.1
    ∙ sym found.1 ∙ ap (slice_get rules) (same_Some n number is)
rule_by rules (n ∷ numbers) (suc k) number h is =
    let found = some_at rules n h.0 in
    ap (λ o. slice_get (cons_option o (rules_at rules numbers)) (suc k)) found.1
    ∙ rule_by rules numbers k number h.1 is

pub rule_of_number : (rules : List Rule) (numbers : List ℕ) (k number : ℕ)
    → All (λ n. n < length rules) numbers → slice_get numbers k ≡ Some number
    → slice_get (rules_at rules numbers) k ≡ slice_get rules number
rule_of_number rules numbers k number h is =
    rule_by rules numbers k number (recursion_from_All (λ n. n < length rules) numbers h) is

-- ---- used names
any_flat : {A B : Type 0} (test : B → Bool) (f : A → List B) (xs : List A) (k : ℕ) (x : A)
    → slice_get xs k ≡ Some x
    → list_any test (f x) ≡ true → list_any test (flat_map f xs) ≡ true
any_flat test f [] k x is h = absurd (none-some x is)
any_flat test f (y ∷ ys) nothing x is h =
    any_front test (f y) (flat_map f ys) (ap (λ z. list_any test (f z)) (same_Some y x is) ∙ h)
any_flat test f (y ∷ ys) (suc k) x is h =
    any_behind test (f y) (flat_map f ys) (any_flat test f ys k x is h)

side_name : (name : ℕ) → list_any (λ other. name == other) (name ∷ []) ≡ true
side_name name = let same : (name == name) ≡ true = grind (arith, nat_tests) in rw same refl

pub left_used : (x : Rules) (rules : List Rule) (k j name : ℕ) (rule : Rule) (c : Condition)
    → slice_get rules k ≡ Some rule
    → slice_get rule.conditions j ≡ Some c → c.left ≡ side.Expr name → IsTrue (is_used x rules name)
unfolding is_used
left_used x rules k j name rule c is at left =
    let test : ℕ → Bool = λ other. name == other in
    let here : list_any test (side_names c.left) ≡ true =
    ap (λ s. list_any test (side_names s)) left ∙ side_name name in
    any_front test (flat_map rule_names rules)
    (flat_map (λ n. at_name kind_names (slice_get x.names n)) (flat_map rule_names rules))
    (any_flat test rule_names rules k rule is
    (any_flat test (λ c. side_names c.left) rule.conditions j c at here))

pub same_asked : (x : Rules) (asks other : ℕ → Bool) (s : State) (at : ℕ) (names : List NameDef)
    → ((name : ℕ) → asks name ≡ other name)
    → stop_from x asks s at names ≡ stop_from x other s at names
same_asked x asks other s at names h = λ i. stop_from x (λ name. h name i) s at names
