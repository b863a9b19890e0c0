-- Groups from the front, and premises in one walk.
use Rattle.std.proofs.Common.{◌≡◌, ℕ, suc, ◌+◌, Bool, true, false, not, ◌&&◌, ◌||◌, List, [], ◌∷◌}
use Rattle.std.proofs.Common.{take_while, drop, refl, ap, sym, ◌∙◌, arith, cond}
use Rattle.std.proofs.lemmas.List.Sums.{take_while-cons}
use Rattle.std.specs.List.{list_all, list_any, onto_first, prefix_len}
use Rattle.rule_types.specs.declared.condition.Condition.{Condition}
use Rattle.rule_meaning.specs.Premise.{groups, premise_by, rest_holds, whole_holds}

-- what is left of the first group, and what comes behind it
abbrev front : {A : Type 0} → (A → Bool) → List A → List A
front begins more = take_while (λ thing. not (begins thing)) more

abbrev behind : {A : Type 0} → (A → Bool) → List A → List A
behind begins more = drop (prefix_len (λ thing. not (begins thing)) more) more

front_by : {A : Type 0} (begins : A → Bool) (thing : A) (more : List A) (b : Bool)
    → begins thing ≡ b
    → front begins (thing ∷ more) ≡ cond b [] (thing ∷ front begins more)
front_by begins thing more true is =
    take_while-cons (λ thing. not (begins thing)) thing more
    ∙ ap (λ c. cond (not c) (thing ∷ front begins more) []) is
front_by begins thing more false is =
    take_while-cons (λ thing. not (begins thing)) thing more
    ∙ ap (λ c. cond (not c) (thing ∷ front begins more) []) is

one_more : {A : Type 0} (thing : A) (more : List A) (n : ℕ)
    → drop (1 + n) (thing ∷ more) ≡ drop n more
one_more thing more n = let e : 1 + n ≡ suc n = omega arith in ap (λ m. drop m (thing ∷ more)) e

behind_by : {A : Type 0} (begins : A → Bool) (thing : A) (more : List A) (b : Bool)
    → begins thing ≡ b
    → behind begins (thing ∷ more) ≡ cond b (thing ∷ more) (behind begins more)
behind_by begins thing more true is =
    ap (λ c. drop (cond (not c) (1 + prefix_len (λ thing. not (begins thing)) more) 0)
    (thing ∷ more)) is
behind_by begins thing more false is =
    ap (λ c. drop (cond (not c) (1 + prefix_len (λ thing. not (begins thing)) more) 0)
    (thing ∷ more)) is
    ∙ one_more thing more (prefix_len (λ thing. not (begins thing)) more)

cut_by : {A : Type 0} (begins : A → Bool) (first next : A) (more : List A) (b : Bool)
    → begins next ≡ b
    → groups begins (next ∷ more) ≡ (next ∷ front begins more) ∷ groups begins (behind begins more)
    → groups begins (first ∷ next ∷ more)
    ≡ (first ∷ front begins (next ∷ more)) ∷ groups begins (behind begins (next ∷ more))
unfolding groups
cut_by begins first next more true is later =
    let joined =
    ap (λ c. cond c ((first ∷ []) ∷ groups begins (next ∷ more))
    (onto_first first (groups begins (next ∷ more)))) is in
    joined
    ∙ sym
    (λ i. (first ∷ front_by begins next more true is i)
    ∷ groups begins (behind_by begins next more true is i))
cut_by begins first next more false is later =
    let joined =
    ap (λ c. cond c ((first ∷ []) ∷ groups begins (next ∷ more))
    (onto_first first (groups begins (next ∷ more)))) is in
    joined ∙ ap (onto_first first) later
    ∙ sym
    (λ i. (first ∷ front_by begins next more false is i)
    ∷ groups begins (behind_by begins next more false is i))

pub groups_front : {A : Type 0} (begins : A → Bool) (first : A) (more : List A)
    → groups begins (first ∷ more)
    ≡ (first ∷ take_while (λ thing. not (begins thing)) more)
    ∷ groups begins (drop (prefix_len (λ thing. not (begins thing)) more) more)
unfolding groups
groups_front begins first [] = refl
groups_front begins first (next ∷ more) =
    cut_by begins first next more (begins next) refl (groups_front begins next more)

-- ---- the walk
abbrev is_joined : Condition → Bool
is_joined c = c.joined_by_and

abbrev rest_by : (Condition → Bool) → Bool → List Condition → Bool
rest_by truth any cs =
    (any || list_any truth (front is_joined cs))
    && list_all (list_any truth) (groups is_joined (behind is_joined cs))

none_left : (any : Bool) → any ≡ ((any || false) && true)
none_left true = refl
none_left false = refl

closed : (any t u : Bool) → (any && (t && u)) ≡ ((any || false) && (t && u))
closed true t u = refl
closed false t u = refl

opened : (any c t u : Bool) → (((any || c) || t) && u) ≡ ((any || (c || t)) && u)
opened true c t u = refl
opened false c t u = refl

walk_by : (truth : Condition → Bool) (any : Bool) (c : Condition) (more : List Condition) (b : Bool)
    → is_joined c ≡ b
    → ((any : Bool) → rest_holds truth any more ≡ rest_by truth any more)
    → rest_holds truth any (c ∷ more) ≡ rest_by truth any (c ∷ more)
unfolding rest_holds
walk_by truth any c more true is later =
    ap (λ b. cond b (any && rest_holds truth (truth c) more)
    (rest_holds truth (any || truth c) more)) is
    ∙ ap (λ t. any && t) (later (truth c))
    ∙ closed any (truth c || list_any truth (front is_joined more))
    (list_all (list_any truth) (groups is_joined (behind is_joined more)))
    ∙ ap (λ gs. (any || false) && list_all (list_any truth) gs)
    (sym (groups_front is_joined c more))
    ∙ sym
    (λ i. (any || list_any truth (front_by is_joined c more true is i))
    && list_all (list_any truth) (groups is_joined (behind_by is_joined c more true is i)))
walk_by truth any c more false is later =
    ap (λ b. cond b (any && rest_holds truth (truth c) more)
    (rest_holds truth (any || truth c) more)) is
    ∙ later (any || truth c)
    ∙ opened any (truth c) (list_any truth (front is_joined more))
    (list_all (list_any truth) (groups is_joined (behind is_joined more)))
    ∙ sym
    (λ i. (any || list_any truth (front_by is_joined c more false is i))
    && list_all (list_any truth) (groups is_joined (behind_by is_joined c more false is i)))

walk_is : (truth : Condition → Bool) (cs : List Condition) (any : Bool)
    → rest_holds truth any cs ≡ rest_by truth any cs
unfolding rest_holds groups
walk_is truth [] any = none_left any
walk_is truth (c ∷ more) any =
    walk_by truth any c more (is_joined c) refl (λ a. walk_is truth more a)

pub premise_walk : (truth : Condition → Bool) (cs : List Condition)
    → premise_by truth cs ≡ whole_holds truth cs
unfolding premise_by whole_holds groups
premise_walk truth [] = refl
premise_walk truth (c ∷ more) =
    ap (list_all (list_any truth)) (groups_front is_joined c more)
    ∙ sym (walk_is truth more (truth c))
