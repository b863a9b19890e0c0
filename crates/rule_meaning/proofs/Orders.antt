-- The orders of a reading rise by link.
use Rattle.std.proofs.Common.{◌≡◌, ℕ, zero as nothing, suc, ◌+◌, ◌<◌, ◌==◌, Bool, true, false}
use Rattle.std.proofs.Common.{Option, Some, None, Result, Ok, Err}
use Rattle.std.proofs.Common.{List, [], ◌∷◌, length, map, refl, sym, ap, subst, ◌∙◌, arith, cond}
use Rattle.std.proofs.Common.{true≢false}
use Rattle.std.proofs.lemmas.Bool.Decides.{nat_tests}
use Rattle.std.proofs.lemmas.List.Elements.{All-contains_itself, recursion_from_All}
use Rattle.std.proofs.lemmas.List.Elements.{All-from_recursion}
use Rattle.std.proofs.lemmas.Option.{none-some, same_Some}
use Rattle.std.specs.Prelude.{IfOk, slice_get, slice_index}
use Rattle.std.specs.List.{All, AllByRecursion, Contains}
use Rattle.std.specs.List.Sorted.{IsStrictlyIncreasing}
use Rattle.exact_fraction.specs.Number.{Rational}
use Rattle.exact_fraction.specs.declared.error.Overflow.{Overflow}
use Rattle.rule_types.specs.declared.action.ActionAt.{ActionAt}
use Rattle.rule_types.specs.declared.action.Order.{Order}
use Rattle.rule_types.specs.declared.action.PidMemory.{PidMemory}
use Rattle.rule_types.specs.declared.rules.Rules.{Rules}
use Rattle.rule_types.specs.declared.state.State.{State}
use Rattle.rule_types.specs.declared.stop.Stop.{Stop}
use Rattle.rule_types.specs.Tables.{TableSet}
use Rattle.rule_types.specs.WellFormed.{InOrder}
use Rattle.rule_types.proofs.PublicLaws.{opened-orders}
use Rattle.rule_meaning.specs.Formula.{names_stop}
use Rattle.rule_meaning.specs.History.{new_target}
use Rattle.rule_meaning.specs.Premise.{listed}
use Rattle.rule_meaning.specs.Reading.{Choice, conditions_at, pids_stop, ordered, action_worth}
use Rattle.rule_meaning.specs.Reading.{order_of, order_then}
use Rattle.rule_meaning.specs.Reading.{orders_on, read_by}
use Rattle.rule_meaning.specs.Settled.{action_at}
use Rattle.rule_meaning.proofs.Kept.{chain}
use Rattle.rule_meaning.proofs.OrderValues.{unless_fits}
use Rattle.rule_meaning.proofs.Replays.{all_above, rising_later}

abbrev link_of : Order → ℕ
link_of order = order.link

-- ---- the links of orders
order_by : (link : ℕ) (at : ActionAt) (r : Result Rational Overflow)
    → IfOk (ordered link at r) (λ order. order.link ≡ link)
order_by link at (Ok q) = refl
order_by link at (Err why) = tt

order_link : (x : Rules) (tables : TableSet) (s : State) (memory : ℕ → PidMemory) (link : ℕ)
    (at : ActionAt)
    → IfOk (order_of x tables s memory link at) (λ order. order.link ≡ link)
unfolding order_of
order_link x tables s memory link at =
    order_by link at
    (action_worth x tables s memory (conditions_at x.rules at) (action_at x.rules at))

links_then : (P : ℕ → Type 0) (x : Rules) (tables : TableSet) (s : State) (memory : ℕ → PidMemory)
    (link : ℕ) (taken : Option ActionAt) (later : Result (List Order) Stop)
    → P link → IfOk later (AllByRecursion (λ order. P order.link))
    → IfOk (order_then x tables s memory link taken later) (AllByRecursion (λ order. P order.link))
links_then P x tables s memory link None later h more = more
links_then P x tables s memory link (Some at) later h more =
    chain (λ order. order.link ≡ link) (AllByRecursion (λ order. P order.link))
    (order_of x tables s memory link at) _ (order_link x tables s memory link at) (λ first same.
    chain (AllByRecursion (λ order. P order.link))
    (AllByRecursion (λ order. P order.link)) later _ more
    (λ rest all. (subst P (sym same) h, all)))

links_on : (P : ℕ → Type 0) (choice : Choice) (x : Rules) (tables : TableSet) (s : State)
    (memory : ℕ → PidMemory) (links : List ℕ)
    → AllByRecursion P links
    → IfOk (orders_on choice x tables s memory links) (AllByRecursion (λ order. P order.link))
unfolding orders_on
links_on P choice x tables s memory [] h = tt
links_on P choice x tables s memory (link ∷ links) h =
    links_then P x tables s memory link (choice s link)
    (orders_on choice x tables s memory links) h.0
    (links_on P choice x tables s memory links h.1)

-- ---- rising links
rising_at : (m n : ℕ) (more : List ℕ) → m < n → IsStrictlyIncreasing (n ∷ more) → (k : ℕ)
    → k + 1 < length (m ∷ n ∷ more) → slice_index (m ∷ n ∷ more) k < slice_index (m ∷ n ∷ more)
    (k + 1)
rising_at m n more first later nothing below = first
rising_at m n more first later (suc k) below =
    let next : suc (k + 1) ≡ suc k + 1 = omega arith in
    subst (λ j. slice_index (m ∷ n ∷ more) (suc k) < slice_index (m ∷ n ∷ more) j) next
    (later k (omega (arith, below)))

rising_first : (m : ℕ) (more : List ℕ) → AllByRecursion (λ n. m < n) more
    → IsStrictlyIncreasing more
    → IsStrictlyIncreasing (m ∷ more)
rising_first m [] above h = λ k below. absurd (omega (arith, below))
rising_first m (n ∷ more) above h = rising_at m n more above.0 h

above_links : (m : ℕ) (orders : List Order) → AllByRecursion (λ order. m < order.link) orders
    → AllByRecursion (λ n. m < n) (map link_of orders)
above_links m [] h = tt
above_links m (order ∷ orders) h = (h.0, above_links m orders h.1)

abbrev Rising : List Order → Type 0
Rising orders = IsStrictlyIncreasing (map link_of orders)

both_ok : {A E : Type 0} (P Q : A → Type 0) (r : Result A E) → IfOk r P → IfOk r Q
    → IfOk r (λ a. P a × Q a)
both_ok P Q (Ok a) h g = (h, g)
both_ok P Q (Err why) h g = tt

rise_then : (x : Rules) (tables : TableSet) (s : State) (memory : ℕ → PidMemory) (link : ℕ)
    (taken : Option ActionAt) (later : Result (List Order) Stop)
    → IfOk later (AllByRecursion (λ order. link < order.link)) → IfOk later Rising
    → IfOk (order_then x tables s memory link taken later) Rising
rise_then x tables s memory link None later above h = h
rise_then x tables s memory link (Some at) later above h =
    chain (λ order. order.link ≡ link) Rising (order_of x tables s memory link at) _
    (order_link x tables s memory link at)
    (λ first same.
    chain (λ rest. AllByRecursion (λ order. link < order.link) rest × Rising rest) Rising later _
    (both_ok (AllByRecursion (λ order. link < order.link)) Rising later above h)
    (λ rest both.
    subst (λ m. IsStrictlyIncreasing (m ∷ map link_of rest)) (sym same)
    (rising_first link (map link_of rest) (above_links link rest both.0) both.1)))

rise_on : (choice : Choice) (x : Rules) (tables : TableSet) (s : State) (memory : ℕ → PidMemory)
    (links : List ℕ)
    → IsStrictlyIncreasing links → IfOk (orders_on choice x tables s memory links) Rising
unfolding orders_on
rise_on choice x tables s memory [] h = λ k below. absurd (omega (arith, below))
rise_on choice x tables s memory (link ∷ links) h =
    rise_then x tables s memory link (choice s link) (orders_on choice x tables s memory links)
    (links_on (λ n. link < n) choice x tables s memory links (all_above link links h))
    (rise_on choice x tables s memory links (rising_later link links h))

pub orders_rise : (choice : Choice) (x : Rules) (tables : TableSet) (s : State)
    (memory : ℕ → PidMemory) → InOrder x
    → IfOk (read_by choice x tables s memory)
    (λ orders. IsStrictlyIncreasing (map (λ order. order.link) orders))
orders_rise choice x tables s memory order =
    unless_fits Rising (names_stop x s) _
    (unless_fits Rising (pids_stop x s memory (listed x s)) _
    (rise_on choice x tables s memory x.controlled (opened-orders x order).controlled))

all_of : {A E : Type 0} (P : A → Type 0) (r : Result (List A) E) → IfOk r (AllByRecursion P)
    → IfOk r (All P)
all_of P (Ok xs) h = All-from_recursion P xs h
all_of P (Err why) h = tt

pub orders_controlled : (choice : Choice) (x : Rules) (tables : TableSet) (s : State)
    (memory : ℕ → PidMemory)
    → IfOk (read_by choice x tables s memory) (All (λ order. Contains x.controlled order.link))
orders_controlled choice x tables s memory =
    let P : ℕ → Type 0 = Contains x.controlled in
    let Q : List Order → Type 0 = AllByRecursion (λ order. P order.link) in
    all_of (λ order. P order.link) (read_by choice x tables s memory)
    (unless_fits Q (names_stop x s) _
    (unless_fits Q (pids_stop x s memory (listed x s)) _
    (links_on P choice x tables s memory x.controlled
    (recursion_from_All P x.controlled (All-contains_itself x.controlled)))))

-- ---- the new target of a link
target_here : (one : Order) (more : List Order) (link : ℕ) (old : Rational) → one.link ≡ link
    → new_target (one ∷ more) link old ≡ one.value
unfolding new_target
target_here one more link old same =
    let is : (one.link == link) ≡ true = grind (arith, nat_tests) in rw is refl

target_later : (one : Order) (more : List Order) (link : ℕ) (old : Rational) → one.link < link
    → new_target (one ∷ more) link old ≡ new_target more link old
unfolding new_target
target_later one more link old below =
    let apart : (one.link == link) ≡ false = grind (arith, nat_tests) in rw apart refl

above_at : (m : ℕ) (orders : List Order) (k : ℕ) (order : Order)
    → AllByRecursion (λ n. m < n) (map link_of orders)
    → slice_get orders k ≡ Some order → m < order.link
above_at m [] k order h is = absurd (none-some order is)
above_at m (one ∷ orders) nothing order h is =
    subst (λ z. m < link_of z) (same_Some one order is) h.0
above_at m (one ∷ orders) (suc k) order h is = above_at m orders k order h.1 is

pub ordered_target : (orders : List Order) (k : ℕ) (order : Order) (old : Rational) → Rising orders
    → slice_get orders k ≡ Some order → new_target orders order.link old ≡ order.value
ordered_target [] k order old h is = absurd (none-some order is)
ordered_target (one ∷ orders) nothing order old h is =
    let same = same_Some one order is in
    target_here one orders order.link old (ap link_of same) ∙ ap (λ z. z.value) same
ordered_target (one ∷ orders) (suc k) order old h is =
    target_later one orders order.link old
    (above_at one.link orders k order (all_above one.link (map link_of orders) h) is)
    ∙ ordered_target orders k order old (rising_later one.link (map link_of orders) h) is

other_by : (b : Bool) (u v w : Rational) → b ≡ false → v ≡ w → cond b u v ≡ w
other_by true u v w h e = absurd (true≢false h)
other_by false u v w h e = e

pub kept_target : (orders : List Order) (link : ℕ) (old : Rational)
    → ((k : ℕ) (order : Order) → slice_get orders k ≡ Some order → order.link ≡ link → ⊥)
    → new_target orders link old ≡ old
unfolding new_target
kept_target [] link old none = refl
kept_target (one ∷ orders) link old none =
    let differs : (one.link ≡ link) → ⊥ = none 0 one refl in
    let apart : (one.link == link) ≡ false = grind (arith, nat_tests) in
    other_by (one.link == link) one.value (new_target orders link old) old apart
    (kept_target orders link old (λ k order is. none (suc k) order is))
