-- One walk through the conditions of a premise.
use Rattle.std.proofs.Common.{◌≡◌, ℕ, ◌+◌, ◌<◌, ◌≤◌, Bool, true, false, not, cond, ◌&&◌, ◌||◌, List, [], ◌∷◌, length, get_or, drop, refl, sym, ap, ◌∙◌, arith}
use Rattle.std.proofs.lemmas.List.{drop_more, drop_all}
use Rattle.premise_eval.proofs.Zips.{zipped}
use Rattle.exact_fraction.specs.Number.{Rational}
use Rattle.rule_types.specs.declared.condition.Condition.{Condition}
use Rattle.rule_meaning.specs.Premise.{rest_holds, whole_holds}
use Rattle.premise_eval.specs.declared.column.Pair.{Pair}
use Rattle.premise_eval.specs.internal.ColumnReading.{holds_in, TruthIn}
use Rattle.std.specs.Prelude.{Option}

pub none_holds : (truth : Condition → Bool) (cs : List Condition) → cs ≡ []
    → true ≡ whole_holds truth cs
unfolding whole_holds
none_holds truth cs none = ap (whole_holds truth) (sym none)

pub first_told : (hours : Rational) (values : List (Option Rational)) (truth : Condition → Bool)
    (cs : List Condition) (pairs : List Pair) (d : Condition) (e : Pair)
    → TruthIn hours values truth cs pairs → 0 < length cs
    → rest_holds truth (holds_in hours values (get_or pairs 0 e) (get_or cs 0 d)) (drop 1 cs)
    ≡ whole_holds truth cs
unfolding TruthIn whole_holds
first_told hours values truth [] pairs d e told some = absurd (omega arith)
first_told hours values truth (c ∷ cs) [] d e told some = elim told [ ]
first_told hours values truth (c ∷ cs) (p ∷ ps) d e told some =
    ap (λ t. rest_holds truth t cs) told.0

rest_cons : (truth : Condition → Bool) (any : Bool) (c : Condition) (more : List Condition)
    → rest_holds truth any (c ∷ more)
    ≡ cond c.joined_by_and (any && rest_holds truth (truth c) more)
    (rest_holds truth (any || truth c) more)
unfolding rest_holds
rest_cons truth any c more = refl

rest_at : (truth : Condition → Bool) (any : Bool) (cs : List Condition) (k : ℕ) (d : Condition)
    → k < length cs
    → rest_holds truth any (drop k cs)
    ≡ cond (get_or cs k d).joined_by_and
    (any && rest_holds truth (truth (get_or cs k d)) (drop (k + 1) cs))
    (rest_holds truth (any || truth (get_or cs k d)) (drop (k + 1) cs))
rest_at truth any cs k d within =
    ap (rest_holds truth any) (drop_more cs k d within)
    ∙ rest_cons truth any (get_or cs k d) (drop (k + 1) cs)

told_at : (hours : Rational) (values : List (Option Rational)) (truth : Condition → Bool)
    (cs : List Condition) (pairs : List Pair) (k : ℕ) (d : Condition) (e : Pair)
    → TruthIn hours values truth cs pairs → k < length cs
    → holds_in hours values (get_or pairs k e) (get_or cs k d) ≡ truth (get_or cs k d)
unfolding TruthIn
told_at hours values truth cs pairs k d e told within =
    zipped (λ (c : Condition) (pair : Pair). holds_in hours values pair c ≡ truth c) cs pairs told k d e within

step_by : (begins any here : Bool) (r : Bool → Bool) → (begins && not any) ≡ false
    → r (cond begins here (any || here)) ≡ cond begins (any && r here) (r (any || here))
step_by true true here r goes = refl
step_by true false here r goes = grind arith
step_by false any here r goes = refl

pub next_told : (hours : Rational) (values : List (Option Rational)) (truth : Condition → Bool)
    (cs : List Condition) (pairs : List Pair) (k : ℕ) (d : Condition) (e : Pair) (any now : Bool)
    → TruthIn hours values truth cs pairs → k < length cs
    → ((get_or cs k d).joined_by_and && not any) ≡ false
    → now ≡ cond (get_or cs k d).joined_by_and (holds_in hours values (get_or pairs k e) (get_or cs k d))
    (any || holds_in hours values (get_or pairs k e) (get_or cs k d))
    → rest_holds truth now (drop (k + 1) cs) ≡ rest_holds truth any (drop k cs)
next_told hours values truth cs pairs k d e any now told within goes is =
    let here = told_at hours values truth cs pairs k d e told within in
    ap (λ t. rest_holds truth t (drop (k + 1) cs))
    (is ∙ ap (λ t. cond (get_or cs k d).joined_by_and t (any || t)) here)
    ∙ step_by (get_or cs k d).joined_by_and any (truth (get_or cs k d)) (λ t. rest_holds truth t (drop (k + 1) cs)) goes
    ∙ sym (rest_at truth any cs k d within)

false_by : (begins any : Bool) (t u : Bool) → begins ≡ true → any ≡ false
    → cond begins (any && t) u ≡ false
false_by true true t u on off = grind arith
false_by true false t u on off = refl
false_by false any t u on off = grind arith

pub closed_group : (truth : Condition → Bool) (any : Bool) (cs : List Condition) (k : ℕ)
    (d : Condition)
    → k < length cs → (get_or cs k d).joined_by_and ≡ true → any ≡ false
    → rest_holds truth any (drop k cs) ≡ false
closed_group truth any cs k d within on off =
    rest_at truth any cs k d within
    ∙ false_by (get_or cs k d).joined_by_and any (rest_holds truth (truth (get_or cs k d)) (drop (k + 1) cs))
    (rest_holds truth (any || truth (get_or cs k d)) (drop (k + 1) cs)) on off

pub at_end : (truth : Condition → Bool) (any : Bool) (cs : List Condition) (k : ℕ)
    → length cs ≤ k → rest_holds truth any (drop k cs) ≡ any
unfolding rest_holds
at_end truth any cs k past = ap (rest_holds truth any) (drop_all k cs past)

-- ---- as the code has the condition of a place
pub first_is : (hours : Rational) (values : List (Option Rational)) (truth : Condition → Bool)
    (cs : List Condition) (pairs : List Pair) (one : Condition) (e : Pair) (found : Bool)
    → found ≡ holds_in hours values (get_or pairs 0 e) one → one ≡ get_or cs 0 one
    → TruthIn hours values truth cs pairs → 0 < length cs
    → rest_holds truth found (drop 1 cs) ≡ whole_holds truth cs
first_is hours values truth cs pairs one e found reads is told some =
    ap (λ t. rest_holds truth t (drop 1 cs)) (reads ∙ ap (λ y. holds_in hours values (get_or pairs 0 e) y) is)
    ∙ first_told hours values truth cs pairs one e told some

pub next_is : (hours : Rational) (values : List (Option Rational)) (truth : Condition → Bool)
    (cs : List Condition) (pairs : List Pair) (k : ℕ) (one : Condition) (e : Pair)
    (any here now : Bool)
    → here ≡ holds_in hours values (get_or pairs k e) one → one ≡ get_or cs k one
    → TruthIn hours values truth cs pairs → k < length cs → (one.joined_by_and && not any) ≡ false
    → now ≡ cond one.joined_by_and here (any || here)
    → rest_holds truth now (drop (k + 1) cs) ≡ rest_holds truth any (drop k cs)
next_is hours values truth cs pairs k one e any here now reads is told within goes joins =
    let at : here ≡ holds_in hours values (get_or pairs k e) (get_or cs k one) =
    reads ∙ ap (λ y. holds_in hours values (get_or pairs k e) y) is in
    next_told hours values truth cs pairs k one e any now told within
    (ap (λ (y : Condition). y.joined_by_and && not any) (sym is) ∙ goes)
    (joins ∙ ap (λ (y : Condition). cond y.joined_by_and here (any || here)) is
    ∙ ap (λ t. cond (get_or cs k one).joined_by_and t (any || t)) at)

pub closed_is : (truth : Condition → Bool) (any : Bool) (cs : List Condition) (k : ℕ)
    (one : Condition)
    → one ≡ get_or cs k one → k < length cs → one.joined_by_and ≡ true → any ≡ false
    → rest_holds truth any (drop k cs) ≡ false
closed_is truth any cs k one is within on off =
    closed_group truth any cs k one within (ap (λ (y : Condition). y.joined_by_and) (sym is) ∙ on) off

pub goes_by_any : (begins any : Bool) → any ≡ true → (begins && not any) ≡ false
goes_by_any true true e = refl
goes_by_any true false e = grind arith
goes_by_any false any e = refl

pub goes_inside : (begins any : Bool) → begins ≡ false → (begins && not any) ≡ false
goes_inside true any e = grind arith
goes_inside false any e = refl
