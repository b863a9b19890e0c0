-- One walk through the conditions gives what is known of a premise.
use Rattle.std.proofs.Common.{◌≡◌, Bool, true, false, cond, List, [], ◌∷◌, refl, sym, ap, ◌∙◌}
use Rattle.std.specs.List.{onto_first}
use Rattle.rule_types.specs.declared.condition.Condition.{Condition}
use Rattle.rule_meaning.specs.Premise.{ends_before, groups}
use Rattle.verdict_meaning.specs.declared.truth.Truth.{Truth}
use Rattle.verdict_meaning.specs.declared.truth.Truth.TheVariants.{Yes, No, Open}
use Rattle.verdict_meaning.specs.Premises.{all_truth, any_truth, both_truth, either_truth}
use Rattle.verdict_meaning.specs.Premises.{premise_truth_by}
use Rattle.box_truths.specs.internal.Groups.{rest_truth}

pub both_assoc : (a b c : Truth) → both_truth (both_truth a b) c ≡ both_truth a (both_truth b c)
both_assoc Yes b c = refl
both_assoc No b c = refl
both_assoc Open Yes c = refl
both_assoc Open No c = refl
both_assoc Open Open Yes = refl
both_assoc Open Open No = refl
both_assoc Open Open Open = refl

either_assoc : (a b c : Truth)
    → either_truth (either_truth a b) c ≡ either_truth a (either_truth b c)
either_assoc Yes b c = refl
either_assoc No b c = refl
either_assoc Open Yes c = refl
either_assoc Open No c = refl
either_assoc Open Open Yes = refl
either_assoc Open Open No = refl
either_assoc Open Open Open = refl

either_no : (a : Truth) → either_truth a No ≡ a
either_no Yes = refl
either_no No = refl
either_no Open = refl

both_yes : (a : Truth) → both_truth a Yes ≡ a
both_yes Yes = refl
both_yes No = refl
both_yes Open = refl

-- all groups, where of the first one this is also known
unfoldable with_first : (Condition → Truth) → Truth → List (List Condition) → Truth
with_first truth t [] = t
with_first truth t (g ∷ gs) =
    both_truth (either_truth t (any_truth truth g)) (all_truth (any_truth truth) gs)

onto : (truth : Condition → Truth) (t : Truth) (c : Condition) (gs : List (List Condition))
    → with_first truth t (onto_first c gs) ≡ with_first truth (either_truth t (truth c)) gs
unfolding with_first any_truth all_truth
onto truth t c [] =
    both_yes (either_truth t (either_truth (truth c) No))
    ∙ ap (either_truth t) (either_no (truth c))
onto truth t c (g ∷ gs) =
    ap (λ s. both_truth s (all_truth (any_truth truth) gs))
    (sym (either_assoc t (truth c) (any_truth truth g)))

alone_by : (truth : Condition → Truth) (c : Condition) (b : Bool) (gs : List (List Condition))
    → with_first truth No (cond b ((c ∷ []) ∷ gs) (onto_first c gs))
    ≡ all_truth (any_truth truth) (cond b ((c ∷ []) ∷ gs) (onto_first c gs))
unfolding with_first all_truth
alone_by truth c true gs = refl
alone_by truth c false [] = refl
alone_by truth c false (g ∷ gs) = refl

-- the groups of some conditions, of the first of which nothing else is known
alone : (truth : Condition → Truth) (c : Condition) (more : List Condition)
    → with_first truth No (groups (λ one. one.joined_by_and) (c ∷ more))
    ≡ all_truth (any_truth truth) (groups (λ one. one.joined_by_and) (c ∷ more))
unfolding groups
alone truth c more =
    alone_by truth c (ends_before (λ one. one.joined_by_and) more)
    (groups (λ one. one.joined_by_and) more)

step_by : (truth : Condition → Truth) (t : Truth) (c : Condition) (b : Bool)
    (gs : List (List Condition)) (rest closed : Truth)
    → rest ≡ with_first truth (either_truth t (truth c)) gs
    → closed ≡ all_truth (any_truth truth) gs
    → cond b (both_truth (either_truth t (truth c)) closed) rest
    ≡ with_first truth t (cond b ((c ∷ []) ∷ gs) (onto_first c gs))
unfolding with_first any_truth
step_by truth t c true gs rest closed goes ends =
    ap (λ s. both_truth (either_truth t s) closed) (sym (either_no (truth c)))
    ∙ ap (both_truth (either_truth t (either_truth (truth c) No))) ends
step_by truth t c false gs rest closed goes ends = goes ∙ sym (onto truth t c gs)

from_front : (truth : Condition → Truth) (t : Truth) (c : Condition) (more : List Condition)
    → rest_truth truth (either_truth t (truth c)) more
    ≡ with_first truth t (groups (λ one. one.joined_by_and) (c ∷ more))
unfolding rest_truth groups with_first any_truth all_truth
from_front truth t c [] =
    sym
    (both_yes (either_truth t (either_truth (truth c) No))
    ∙ ap (either_truth t) (either_no (truth c)))
from_front truth t c (d ∷ more) =
    step_by truth t c d.joined_by_and (groups (λ one. one.joined_by_and) (d ∷ more))
    (rest_truth truth (either_truth (either_truth t (truth c)) (truth d)) more)
    (rest_truth truth (truth d) more)
    (from_front truth (either_truth t (truth c)) d more)
    (from_front truth No d more ∙ alone truth d more)

pub premise_front : (truth : Condition → Truth) (c : Condition) (more : List Condition)
    → rest_truth truth (truth c) more ≡ premise_truth_by truth (c ∷ more)
unfolding premise_truth_by
premise_front truth c more = from_front truth No c more ∙ alone truth c more

-- ---- the loop

pub walk_begins : (truth : Condition → Truth) (cs : List Condition) (c : Condition)
    (more : List Condition) (group : Truth) → cs ≡ c ∷ more → group ≡ truth c
    → both_truth Yes (rest_truth truth group more) ≡ premise_truth_by truth cs
walk_begins truth cs c more group is here =
    ap (λ t. rest_truth truth t more) here ∙ premise_front truth c more
    ∙ ap (premise_truth_by truth) (sym is)

next_by : (truth : Condition → Truth) (b : Bool) (total group here : Truth)
    (more : List Condition)
    → both_truth (cond b (both_truth total group) total)
    (rest_truth truth (cond b here (either_truth group here)) more)
    ≡ both_truth total
    (cond b (both_truth group (rest_truth truth here more))
    (rest_truth truth (either_truth group here) more))
next_by truth true total group here more = both_assoc total group (rest_truth truth here more)
next_by truth false total group here more = refl

pub walk_goes_on : (truth : Condition → Truth) (rest : List Condition) (c : Condition)
    (more : List Condition) (total group here closed open_one : Truth) → rest ≡ c ∷ more
    → here ≡ truth c → closed ≡ cond c.joined_by_and (both_truth total group) total
    → open_one ≡ cond c.joined_by_and here (either_truth group here)
    → both_truth closed (rest_truth truth open_one more)
    ≡ both_truth total (rest_truth truth group rest)
unfolding rest_truth
walk_goes_on truth rest c more total group here closed open_one is at ends opens =
    ap (λ t. both_truth t (rest_truth truth open_one more)) ends
    ∙ ap
    (λ t. both_truth (cond c.joined_by_and (both_truth total group) total)
    (rest_truth truth t more)) opens
    ∙ ap
    (λ t. both_truth (cond c.joined_by_and (both_truth total group) total)
    (rest_truth truth (cond c.joined_by_and t (either_truth group t)) more)) at
    ∙ next_by truth c.joined_by_and total group (truth c) more
    ∙ ap (λ cs. both_truth total (rest_truth truth group cs)) (sym is)

pub walk_ends : (truth : Condition → Truth) (total group : Truth) (rest : List Condition)
    → rest ≡ [] → both_truth total group ≡ both_truth total (rest_truth truth group rest)
unfolding rest_truth
walk_ends truth total group rest none =
    ap (λ cs. both_truth total (rest_truth truth group cs)) (sym none)

pub none_is_yes : (truth : Condition → Truth) (cs : List Condition) → cs ≡ []
    → Yes ≡ premise_truth_by truth cs
unfolding premise_truth_by groups all_truth
none_is_yes truth cs none = ap (premise_truth_by truth) (sym none)
