-- Links that follow their targets, one by one, and orders that are left.
use Rattle.std.proofs.Common.{◌≡◌, ℕ, zero, suc, ◌+◌, ◌<◌, ◌≤◌, ◌==◌, false, cond, Some, None, List, [], ◌∷◌, ◌++◌, length, map, set, take, drop, refl, sym, ap, subst, ◌∙◌, append_assoc, append-nil, arith}
use Rattle.std.proofs.lemmas.List.{drop_more, drop_all, take_all, take_more_set}
use Rattle.std.proofs.lemmas.Option.{none-some, same_Some, get_or_from_slice_get, slice_get_within}
use Rattle.std.proofs.lemmas.Bool.Decides.{nat_tests}
use Rattle.std.specs.Prelude.{slice_get}
use Rattle.std.specs.List.{slice_index}
use Rattle.std.specs.List.Sorted.{IsStrictlyIncreasing}
use Rattle.exact_fraction.specs.Number.{Rational}
use Rattle.rule_types.specs.declared.action.Order.{Order}
use Rattle.rule_types.specs.declared.state.LinkState.{LinkState}
use Rattle.rule_meaning.specs.History.{Standing, standing_of, all_moved, stayed, new_target}
use Rattle.rule_meaning.specs.Movement.{moved}

-- ---- lists that rise
pub rising_later : (link : ℕ) (links : List ℕ) → IsStrictlyIncreasing (link ∷ links) → IsStrictlyIncreasing links
rising_later link links h = λ k below. (let next : suc k + 1 ≡ suc (k + 1) = omega arith in
    subst (λ m. slice_index (link ∷ links) (suc k) < slice_index (link ∷ links) m) next
    (h (suc k) (omega (arith, below))))

above_at : (x : ℕ) (xs : List ℕ) (j b : ℕ) → IsStrictlyIncreasing (x ∷ xs) → slice_get xs j ≡ Some b → x < b
above_at x [] j b rising is = absurd (none-some b is)
above_at x (y ∷ ys) zero b rising is =
    let first : x < y = rising 0 (omega arith) in
    let same : y ≡ b = same_Some y b is in omega (arith, first, same)
above_at x (y ∷ ys) (suc j) b rising is =
    let first : x < y = rising 0 (omega arith) in
    let later : y < b = above_at y ys j b (rising_later x (y ∷ ys) rising) is in omega (arith, first, later)

pub rising_far : (xs : List ℕ) (k j a b : ℕ) → IsStrictlyIncreasing xs → k < j → slice_get xs k ≡ Some a → slice_get xs j ≡ Some b → a < b
rising_far [] k j a b rising far here there = absurd (none-some a here)
rising_far (x ∷ xs) zero zero a b rising far here there = absurd (omega (arith, far))
rising_far (x ∷ xs) zero (suc j) a b rising far here there =
    let above : x < b = above_at x xs j b rising there in
    let same : x ≡ a = same_Some x a here in omega (arith, above, same)
rising_far (x ∷ xs) (suc k) zero a b rising far here there = absurd (omega (arith, far))
rising_far (x ∷ xs) (suc k) (suc j) a b rising far here there = rising_far xs k j a b (rising_later x xs rising) (omega (arith, far)) here there

abbrev pub links_of : List Order → List ℕ
links_of orders = map (λ order. order.link) orders

pub rising_from : (orders : List Order) (at : ℕ) → IsStrictlyIncreasing (links_of orders) → IsStrictlyIncreasing (links_of (drop at orders))
rising_from orders zero rising = rising
rising_from [] (suc at) rising = rising
rising_from (first ∷ more) (suc at) rising = rising_from more at (rising_later first.link (links_of more) rising)

-- ---- targets
no_later : (link bound : ℕ) (old : Rational) (more : List Order) → link ≤ bound → IsStrictlyIncreasing (bound ∷ links_of more) → new_target more link old ≡ old
unfolding new_target
no_later link bound old [] at_most rising = refl
no_later link bound old (next ∷ more) at_most rising =
    let above : bound < next.link = rising 0 (omega arith) in
    let apart : (next.link == link) ≡ false = grind (arith, nat_tests) in
    rw apart (no_later link next.link old more (omega (arith, above, at_most)) (rising_later bound (links_of (next ∷ more)) rising))

pub target_first : (orders : List Order) (first : Order) (link : ℕ) (old : Rational) → slice_get orders 0 ≡ Some first
    → IsStrictlyIncreasing (links_of orders) → ((order : Order) → slice_get orders 0 ≡ Some order → link ≤ order.link)
    → cond (first.link == link) first.value old ≡ new_target orders link old
unfolding new_target
target_first [] first link old is rising from = absurd (none-some first is)
target_first (one ∷ more) first link old is rising from =
    subst (λ (o : Order). cond (o.link == link) o.value old ≡ cond (one.link == link) one.value (new_target more link old)) (same_Some one first is)
    (ap (cond (one.link == link) one.value) (sym (no_later link one.link old more (from one refl) rising)))

pub target_none : (orders : List Order) (link : ℕ) (old : Rational) → slice_get orders 0 ≡ None → old ≡ new_target orders link old
unfolding new_target
target_none [] link old is = refl
target_none (one ∷ more) link old is = absurd (none-some one (sym is))

-- ---- one more link
stayed_push : (links : List LinkState) (link : LinkState) → stayed (links ++ link ∷ []) ≡ stayed links ++ record { setting = link.setting; target = link.target } ∷ []
stayed_push [] link = refl
stayed_push (first ∷ links) link = ap (λ rest. record { setting = first.setting; target = first.target } ∷ rest) (stayed_push links link)

pub drop_at : {A : Type 0} (xs : List A) (k : ℕ) (x : A) → slice_get xs k ≡ Some x → drop k xs ≡ x ∷ drop (k + 1) xs
drop_at xs k x is = drop_more xs k x (slice_get_within xs k x is) ∙ ap (λ y. y ∷ drop (k + 1) xs) (get_or_from_slice_get xs k x x is)

moved_first : (gap : Rational) (orders : List Order) (link : ℕ) (links : List ℕ) (rate : Rational) (rates : List Rational) (old : LinkState) (states : List LinkState)
    → all_moved gap orders (link ∷ links) (rate ∷ rates) (old ∷ states)
    ≡ standing_of rate gap old.setting (new_target orders link old.target) ∷ all_moved gap orders links rates states
unfolding all_moved
moved_first gap orders link links rate rates old states = refl

pub follow_step : (gap : Rational) (orders : List Order) (tracked : List ℕ) (rates : List Rational) (links after : List LinkState) (k tk : ℕ)
    (rate : Rational) (old link : LinkState) (all : List Standing)
    → k < length after → slice_get tracked k ≡ Some tk → slice_get rates k ≡ Some rate → slice_get links k ≡ Some old
    → link.setting ≡ moved rate gap old.setting (new_target orders tk old.target) → link.target ≡ new_target orders tk old.target
    → stayed (take k after) ++ all_moved gap orders (drop k tracked) (drop k rates) (drop k links) ≡ all
    → stayed (take (k + 1) (set after k link)) ++ all_moved gap orders (drop (k + 1) tracked) (drop (k + 1) rates) (drop (k + 1) links) ≡ all
follow_step gap orders tracked rates links after k tk rate old link all within at_link at_rate at_old setting target before =
    let later : List Standing = all_moved gap orders (drop (k + 1) tracked) (drop (k + 1) rates) (drop (k + 1) links) in
    let here : Standing = standing_of rate gap old.setting (new_target orders tk old.target) in
    ap (λ list. stayed list ++ later) (take_more_set after k link within)
    ∙ ap (λ list. list ++ later) (stayed_push (take k after) link)
    ∙ (λ i. (stayed (take k after) ++ record { setting = setting i; target = target i } ∷ []) ++ later)
    ∙ append_assoc (stayed (take k after)) (here ∷ []) later
    ∙ ap (λ list. stayed (take k after) ++ list)
    (sym ((λ i. all_moved gap orders (drop_at tracked k tk at_link i) (drop_at rates k rate at_rate i) (drop_at links k old at_old i))
    ∙ moved_first gap orders tk (drop (k + 1) tracked) rate (drop (k + 1) rates) old (drop (k + 1) links)))
    ∙ before

none_moved : (gap : Rational) (orders : List Order) (rates : List Rational) (states : List LinkState) → all_moved gap orders [] rates states ≡ []
unfolding all_moved
none_moved gap orders rates states = refl

pub follow_end : (gap : Rational) (orders : List Order) (tracked : List ℕ) (rates : List Rational) (links after : List LinkState) (k : ℕ) (all : List Standing)
    → length tracked ≤ k → length after ≡ length tracked
    → stayed (take k after) ++ all_moved gap orders (drop k tracked) (drop k rates) (drop k links) ≡ all → stayed after ≡ all
follow_end gap orders tracked rates links after k all past long before =
    sym (append-nil (stayed after))
    ∙ sym (ap (λ list. stayed list ++ []) (take_all k after (omega (arith, past, long))))
    ∙ sym (ap (λ list. stayed (take k after) ++ list) ((λ i. all_moved gap orders (drop_all k tracked past i) (drop k rates) (drop k links)) ∙ none_moved gap orders (drop k rates) (drop k links)))
    ∙ before

pub same_later : (tracked : List ℕ) (orders rest more : List Order) (k tk : ℕ) → IsStrictlyIncreasing tracked → slice_get tracked k ≡ Some tk
    → ((other : ℕ) (old : Rational) → tk ≤ other → new_target more other old ≡ new_target rest other old)
    → ((j other : ℕ) (old : Rational) → k ≤ j → slice_get tracked j ≡ Some other → new_target rest other old ≡ new_target orders other old)
    → (j other : ℕ) (old : Rational) → k + 1 ≤ j → slice_get tracked j ≡ Some other → new_target more other old ≡ new_target orders other old
same_later tracked orders rest more k tk rising here same before j other old later there =
    let above : tk < other = rising_far tracked k j tk other rising (omega (arith, later)) here there in
    same other old (omega (arith, above)) ∙ before j other old (omega (arith, later)) there
