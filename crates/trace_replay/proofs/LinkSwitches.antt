-- Links that are moved and switched by one walk, in place, and links that stay.
use Rattle.std.proofs.Common.{◌≡◌, ℕ, zero, suc, ◌+◌, ◌<◌, ◌≤◌, Bool, true, false, true≢false, ◌||◌, cond, Option, Some, List, [], ◌∷◌, ◌++◌, length, get_or, set, take, drop, refl, sym, ap, ◌∙◌, append_assoc, append-nil, arith, ℤ}
use Rattle.std.proofs.lemmas.List.{drop_all, drop-drop, drop-set-lt, set-get_or, take_all, take_more_set}
use Rattle.std.specs.Prelude.{slice_get}
use Rattle.exact_fraction.specs.Number.{Rational}
use Rattle.exact_fraction.specs.Order.{less}
use Rattle.exact_fraction.proofs.PublicLaws.{tests-not_less, order-reflexive, equality-fraction}
use Rattle.rule_types.specs.declared.action.Order.{Order}
use Rattle.rule_types.specs.declared.state.LinkState.{LinkState}
use Rattle.rule_types.specs.WellFormed.{has_rate}
use Rattle.rule_meaning.specs.History.{Standing, all_moved, stayed, new_target}
use Rattle.rule_meaning.specs.Movement.{moved, towards}
use Rattle.rule_meaning.specs.Replay.{is_switch, switches_after}
use Rattle.trace_replay.proofs.LinkSteps.{drop_at}
use Rattle.trace_replay.proofs.Zeros.{not_switched}

-- ---- a list that is written from the first place on: the rest is as before
from_drop : {A : Type 0} (xs : List A) (k : ℕ) → slice_get (drop k xs) 0 ≡ slice_get xs k
from_drop [] zero = refl
from_drop [] (suc k) = refl
from_drop (x ∷ xs) zero = refl
from_drop (x ∷ xs) (suc k) = from_drop xs k

pub same_item : {A : Type 0} (xs ys : List A) (k : ℕ) (x : A) → drop k xs ≡ drop k ys → slice_get xs k ≡ Some x → slice_get ys k ≡ Some x
same_item xs ys k x same is = sym (from_drop ys k) ∙ ap (λ list. slice_get list 0) (sym same) ∙ from_drop xs k ∙ is

pub rest_same : {A : Type 0} (xs ys : List A) (k : ℕ) (x : A) → drop k xs ≡ drop k ys → drop (k + 1) (set xs k x) ≡ drop (k + 1) ys
rest_same xs ys k x same =
    drop-set-lt (k + 1) xs k x (omega arith) ∙ sym (drop-drop 1 k xs) ∙ ap (drop 1) same ∙ drop-drop 1 k ys

neither : (a b : Bool) → (a || b) ≡ false → (a ≡ false) × (b ≡ false)
neither true b is = absurd (true≢false is)
neither false b is = (refl, is)

pub still_same : (before links : List LinkState) (k : ℕ) (link d : LinkState) (changed moves : Bool) → (changed ≡ false → links ≡ before)
    → (moves ≡ false → link ≡ get_or links k d) → (changed || moves) ≡ false → set links k link ≡ before
still_same before links k link d changed moves same stays is =
    let both = neither changed moves is in ap (set links k) (stays both.1) ∙ set-get_or links k d ∙ same both.0

-- ---- a link at its target
less_itself : (t : Rational) → less t t ≡ false
less_itself t = (tests-not_less t t).1 (order-reflexive t)

either_same : (rated below : Bool) (up down t : Rational) → below ≡ false → t ≡ cond rated (cond below up (cond below down t)) t
either_same true true up down t is = absurd (true≢false is)
either_same true false up down t is = refl
either_same false below up down t is = refl

moved_at : (rate gap t : Rational) → t ≡ moved rate gap t t
unfolding moved towards
moved_at rate gap t = either_same (has_rate rate) (less t t) _ _ t (less_itself t)

pub stands_setting : (rate gap setting target : Rational) → setting ≡ target → setting ≡ moved rate gap setting target
stands_setting rate gap setting target same = same ∙ moved_at rate gap target ∙ ap (λ s. moved rate gap s target) (sym same)

pub stands_switch : (q : Rational) (moment : ℤ) (last : Option ℤ) → last ≡ cond (is_switch q q) (Some moment) last
stands_switch q moment last = sym (ap (λ b. cond b (Some moment) last) (not_switched q))

-- ---- one more link
switched_first : (moment : ℤ) (gap : Rational) (orders : List Order) (link : ℕ) (links : List ℕ) (rate : Rational) (rates : List Rational)
    (old : LinkState) (states : List LinkState) (last : Option ℤ) (switches : List (Option ℤ))
    → switches_after moment (old ∷ states) (all_moved gap orders (link ∷ links) (rate ∷ rates) (old ∷ states)) (last ∷ switches)
    ≡ cond (is_switch old.setting (moved rate gap old.setting (new_target orders link old.target))) (Some moment) last
    ∷ switches_after moment states (all_moved gap orders links rates states) switches
unfolding all_moved switches_after
switched_first moment gap orders link links rate rates old states last switches = refl

pub switched_step : (moment : ℤ) (gap : Rational) (orders : List Order) (tracked : List ℕ) (rates : List Rational) (links : List LinkState) (before switches : List (Option ℤ))
    (k tk : ℕ) (rate : Rational) (old link : LinkState) (last new : Option ℤ) (all : List (Option ℤ))
    → k < length switches → slice_get tracked k ≡ Some tk → slice_get rates k ≡ Some rate → slice_get links k ≡ Some old → slice_get before k ≡ Some last
    → link.setting ≡ moved rate gap old.setting (new_target orders tk old.target)
    → new ≡ cond (is_switch old.setting link.setting) (Some moment) last
    → take k switches ++ switches_after moment (drop k links) (all_moved gap orders (drop k tracked) (drop k rates) (drop k links)) (drop k before) ≡ all
    → take (k + 1) (set switches k new) ++ switches_after moment (drop (k + 1) links) (all_moved gap orders (drop (k + 1) tracked) (drop (k + 1) rates) (drop (k + 1) links)) (drop (k + 1) before) ≡ all
switched_step moment gap orders tracked rates links before switches k tk rate old link last new all within at_link at_rate at_old at_last setting chosen is =
    let later : List (Option ℤ) = switches_after moment (drop (k + 1) links) (all_moved gap orders (drop (k + 1) tracked) (drop (k + 1) rates) (drop (k + 1) links)) (drop (k + 1) before) in
    ap (λ list. list ++ later) (take_more_set switches k new within)
    ∙ append_assoc (take k switches) (new ∷ []) later
    ∙ ap (λ list. take k switches ++ list)
    (ap (λ item. item ∷ later) (chosen ∙ ap (λ s. cond (is_switch old.setting s) (Some moment) last) setting)
    ∙ sym ((λ i. switches_after moment (drop_at links k old at_old i)
    (all_moved gap orders (drop_at tracked k tk at_link i) (drop_at rates k rate at_rate i) (drop_at links k old at_old i)) (drop_at before k last at_last i))
    ∙ switched_first moment gap orders tk (drop (k + 1) tracked) rate (drop (k + 1) rates) old (drop (k + 1) links) last (drop (k + 1) before)))
    ∙ is

none_switched : (moment : ℤ) (new : List Standing) (switches : List (Option ℤ)) → switches_after moment [] new switches ≡ []
unfolding switches_after
none_switched moment new switches = refl

pub switched_end : (moment : ℤ) (links : List LinkState) (new : List Standing) (before switches : List (Option ℤ)) (k : ℕ) (all : List (Option ℤ))
    → length links ≤ k → length switches ≤ k
    → take k switches ++ switches_after moment (drop k links) new (drop k before) ≡ all → switches ≡ all
switched_end moment links new before switches k all past end is =
    sym (append-nil switches)
    ∙ sym (ap (λ list. list ++ []) (take_all k switches end))
    ∙ sym (ap (λ list. take k switches ++ list) ((λ i. switches_after moment (drop_all k links past i) new (drop k before)) ∙ none_switched moment new (drop k before)))
    ∙ is

-- ---- links that stay
pub none_switches : (moment : ℤ) (links : List LinkState) (switches : List (Option ℤ)) → length links ≡ length switches
    → switches ≡ switches_after moment links (stayed links) switches
unfolding switches_after
none_switches moment [] [] long = refl
none_switches moment [] (last ∷ switches) long = absurd (omega (arith, long))
none_switches moment (link ∷ links) [] long = absurd (omega (arith, long))
none_switches moment (link ∷ links) (last ∷ switches) long =
    let later : switches ≡ switches_after moment links (stayed links) switches = none_switches moment links switches (omega (arith, long)) in
    λ i. stands_switch link.setting moment last i ∷ later i

-- ---- whether two numbers are the same
pub ruleset number_tests = (equality-fraction)
