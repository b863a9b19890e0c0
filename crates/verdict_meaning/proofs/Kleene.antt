-- What is known of conditions tells what is known of premises.
use Rattle.std.proofs.Common.{◌≡◌, Bool, true, false, ◌&&◌, ◌||◌, List, [], ◌∷◌, refl, cond, ap, ◌∙◌}
use Rattle.std.specs.List.{list_all, list_any, All, AllByRecursion, onto_first}
use Rattle.std.proofs.lemmas.List.Elements.{All-head, All-tail}
use Rattle.rule_types.specs.declared.condition.Condition.{Condition}
use Rattle.rule_meaning.specs.Premise.{ends_before, groups, premise_by}
use Rattle.verdict_meaning.specs.declared.truth.Truth.{Truth}
use Rattle.verdict_meaning.specs.declared.truth.Truth.TheVariants.{Yes, No, Open}
use Rattle.verdict_meaning.specs.Premises.{Tells, either_truth, both_truth, any_truth, all_truth}
use Rattle.verdict_meaning.specs.Premises.{premise_truth_by}
use Rattle.verdict_meaning.specs.Shown.{is_no, is_yes}
use Rattle.verdict_meaning.proofs.Tests.{or_right}

-- what holds of each item holds of the first one and of each other
pub by_recursion : {A : Type 0} (P : A → Type 0) (xs : List A) → All P xs → AllByRecursion P xs
by_recursion P [] h = tt
by_recursion P (x ∷ xs) h = (All-head P x xs h, by_recursion P xs (All-tail P x xs h))

both_false : (a b : Bool) → b ≡ false → (a && b) ≡ false
both_false true b h = h
both_false false b h = refl

either_tells : (t u : Truth) (a b : Bool) → Tells t a → Tells u b
    → Tells (either_truth t u) (a || b)
either_tells Yes u a b h g = rw h refl
either_tells No u a b h g = rw h g
either_tells Open Yes a b h g = or_right a b g
either_tells Open No a b h g = tt
either_tells Open Open a b h g = tt

both_tells : (t u : Truth) (a b : Bool) → Tells t a → Tells u b → Tells (both_truth t u) (a && b)
both_tells Yes u a b h g = rw h g
both_tells No u a b h g = rw h refl
both_tells Open Yes a b h g = tt
both_tells Open No a b h g = both_false a b g
both_tells Open Open a b h g = tt

any_tells : {A : Type 0} (truth : A → Truth) (test : A → Bool) (xs : List A)
    → AllByRecursion (λ x. Tells (truth x) (test x)) xs
    → Tells (any_truth truth xs) (list_any test xs)
unfolding any_truth
any_tells truth test [] h = refl
any_tells truth test (x ∷ xs) h =
    either_tells (truth x) (any_truth truth xs) (test x) (list_any test xs) h.0
    (any_tells truth test xs h.1)

all_tells : {A : Type 0} (truth : A → Truth) (test : A → Bool) (xs : List A)
    → AllByRecursion (λ x. Tells (truth x) (test x)) xs
    → Tells (all_truth truth xs) (list_all test xs)
unfolding all_truth
all_tells truth test [] h = refl
all_tells truth test (x ∷ xs) h =
    both_tells (truth x) (all_truth truth xs) (test x) (list_all test xs) h.0
    (all_tells truth test xs h.1)

-- what holds of each thing holds of each thing of each group
onto_all : {A : Type 0} (P : A → Type 0) (c : A) (gs : List (List A)) → P c
    → AllByRecursion (AllByRecursion P) gs
    → AllByRecursion (AllByRecursion P) (onto_first c gs)
onto_all P c [] h later = ((h, tt), tt)
onto_all P c (g ∷ gs) h later = ((h, later.0), later.1)

groups_by : {A : Type 0} (P : A → Type 0) (c : A) (gs : List (List A)) (b : Bool) → P c
    → AllByRecursion (AllByRecursion P) gs
    → AllByRecursion (AllByRecursion P) (cond b ((c ∷ []) ∷ gs) (onto_first c gs))
groups_by P c gs true h later = ((h, tt), later)
groups_by P c gs false h later = onto_all P c gs h later

groups_all : {A : Type 0} (P : A → Type 0) (begins : A → Bool) (xs : List A) → AllByRecursion P xs
    → AllByRecursion (AllByRecursion P) (groups begins xs)
unfolding groups
groups_all P begins [] h = tt
groups_all P begins (c ∷ more) h =
    groups_by P c (groups begins more) (ends_before begins more) h.0
    (groups_all P begins more h.1)

each_tells : (truth : Condition → Truth) (test : Condition → Bool) (gs : List (List Condition))
    → AllByRecursion (AllByRecursion (λ c. Tells (truth c) (test c))) gs
    → AllByRecursion (λ g. Tells (any_truth truth g) (list_any test g)) gs
each_tells truth test [] h = tt
each_tells truth test (g ∷ gs) h =
    (any_tells truth test g h.0, each_tells truth test gs h.1)

pub premise_tells : (truth : Condition → Truth) (test : Condition → Bool) (cs : List Condition)
    → All (λ c. Tells (truth c) (test c)) cs
    → Tells (premise_truth_by truth cs) (premise_by test cs)
unfolding premise_truth_by premise_by
premise_tells truth test cs h =
    let gs = groups (λ c. c.joined_by_and) cs in
    all_tells (any_truth truth) (list_any test) gs
    (each_tells truth test gs
    (groups_all (λ c. Tells (truth c) (test c)) (λ c. c.joined_by_and) cs
    (by_recursion (λ c. Tells (truth c) (test c)) cs h)))

-- ---- which premises are Yes and which are No
either_yes : (t u : Truth) → is_yes (either_truth t u) ≡ (is_yes t || is_yes u)
either_yes Yes u = refl
either_yes No u = refl
either_yes Open Yes = refl
either_yes Open No = refl
either_yes Open Open = refl

either_no : (t u : Truth) → is_no (either_truth t u) ≡ (is_no t && is_no u)
either_no Yes u = refl
either_no No u = refl
either_no Open Yes = refl
either_no Open No = refl
either_no Open Open = refl

both_yes : (t u : Truth) → is_yes (both_truth t u) ≡ (is_yes t && is_yes u)
both_yes Yes u = refl
both_yes No u = refl
both_yes Open Yes = refl
both_yes Open No = refl
both_yes Open Open = refl

both_no : (t u : Truth) → is_no (both_truth t u) ≡ (is_no t || is_no u)
both_no Yes u = refl
both_no No u = refl
both_no Open Yes = refl
both_no Open No = refl
both_no Open Open = refl

any_yes : {A : Type 0} (truth : A → Truth) (xs : List A)
    → is_yes (any_truth truth xs) ≡ list_any (λ x. is_yes (truth x)) xs
unfolding any_truth
any_yes truth [] = refl
any_yes truth (x ∷ xs) =
    either_yes (truth x) (any_truth truth xs)
    ∙ ap (λ b. is_yes (truth x) || b) (any_yes truth xs)

any_no : {A : Type 0} (truth : A → Truth) (xs : List A)
    → is_no (any_truth truth xs) ≡ list_all (λ x. is_no (truth x)) xs
unfolding any_truth
any_no truth [] = refl
any_no truth (x ∷ xs) =
    either_no (truth x) (any_truth truth xs)
    ∙ ap (λ b. is_no (truth x) && b) (any_no truth xs)

groups_yes : (truth : Condition → Truth) (gs : List (List Condition))
    → is_yes (all_truth (any_truth truth) gs)
    ≡ list_all (list_any (λ c. is_yes (truth c))) gs
unfolding all_truth
groups_yes truth [] = refl
groups_yes truth (g ∷ gs) =
    both_yes (any_truth truth g) (all_truth (any_truth truth) gs)
    ∙ (ap (λ b. b && is_yes (all_truth (any_truth truth) gs)) (any_yes truth g)
    ∙ ap (λ b. list_any (λ c. is_yes (truth c)) g && b) (groups_yes truth gs))

groups_no : (truth : Condition → Truth) (gs : List (List Condition))
    → is_no (all_truth (any_truth truth) gs)
    ≡ list_any (list_all (λ c. is_no (truth c))) gs
unfolding all_truth
groups_no truth [] = refl
groups_no truth (g ∷ gs) =
    both_no (any_truth truth g) (all_truth (any_truth truth) gs)
    ∙ (ap (λ b. b || is_no (all_truth (any_truth truth) gs)) (any_no truth g)
    ∙ ap (λ b. list_all (λ c. is_no (truth c)) g || b) (groups_no truth gs))

pub premise_yes : (truth : Condition → Truth) (cs : List Condition)
    → is_yes (premise_truth_by truth cs)
    ≡ list_all (list_any (λ c. is_yes (truth c))) (groups (λ c. c.joined_by_and) cs)
unfolding premise_truth_by
premise_yes truth cs = groups_yes truth (groups (λ c. c.joined_by_and) cs)

pub premise_no : (truth : Condition → Truth) (cs : List Condition)
    → is_no (premise_truth_by truth cs)
    ≡ list_any (list_all (λ c. is_no (truth c))) (groups (λ c. c.joined_by_and) cs)
unfolding premise_truth_by
premise_no truth cs = groups_no truth (groups (λ c. c.joined_by_and) cs)
