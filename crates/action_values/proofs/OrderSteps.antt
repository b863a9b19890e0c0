-- The orders of links, one by one.
use Rattle.std.proofs.Common.{subst, None, Bool, true, false, not, cond, nat_lt, ◌==◌, position, ◌≡◌, ℕ, zero, suc, ◌+◌, ◌<◌, ◌≤◌, Option, Some, Result, Ok, Err, List, [], ◌∷◌, ◌++◌, length, get_or, take, drop, map, refl, sym, ap, ◌∙◌, append_assoc, arith}
use Rattle.std.proofs.lemmas.List.{drop_more, drop_all, get_or-map, append-nil, take_more, take_all}
use Rattle.rule_types.specs.WellFormed.{WellFormed}
use Rattle.rule_types.proofs.PublicLaws.{opened-lists}
use Rattle.std.proofs.lemmas.Option.{none-some, same_Some, slice_get-get_or}
use Rattle.std.specs.Prelude.{Contains, slice_get}
use Rattle.std.specs.List.{AllZip, position_or_len}
use Rattle.std.proofs.lemmas.Bool.Decides.{nat_tests}
use Rattle.rule_types.specs.declared.action.ActionAt.{ActionAt}
use Rattle.exact_fraction.specs.Number.{Rational}
use Rattle.rule_types.specs.declared.action.Action.{Action}
use Rattle.rule_types.specs.declared.action.Order.{Order}
use Rattle.rule_types.specs.declared.action.PidMemory.{PidMemory}
use Rattle.rule_types.specs.declared.action.What.{What}
use Rattle.rule_types.specs.declared.action.What.TheVariants.{Constant}
use Rattle.rule_types.specs.declared.condition.Condition.{Condition}
use Rattle.rule_types.specs.declared.rules.Rules.{Rules}
use Rattle.rule_types.specs.declared.state.State.{State}
use Rattle.rule_types.specs.declared.stop.Stop.{Stop}
use Rattle.rule_types.specs.Tables.{TableSet}
use Rattle.rule_meaning.specs.CheckedSteps.{◌>>=◌}
use Rattle.rule_meaning.specs.Reading.{Choice, action_worth, conditions_at, order_of, order_then, ordered, orders_on}
use Rattle.rule_meaning.specs.Settled.{action_at}
use Rattle.rule_meaning.specs.Worth.{capped, rate_of, what_worth, worth}
use Rattle.action_values.specs.Links.{ControlledPlaces}
use Rattle.action_values.specs.Readings.{prepended}

-- ---- places
zipped_at : {A B : Type 0} (R : A → B → Type 0) (xs : List A) (ys : List B) → AllZip R xs ys
    → (k : ℕ) (d : A) (e : B) → k < length xs → R (get_or xs k d) (get_or ys k e)
zipped_at R [] [] all k d e within = absurd (omega arith)
zipped_at R [] (y ∷ ys) all k d e within = elim all [ ]
zipped_at R (x ∷ xs) [] all k d e within = elim all [ ]
zipped_at R (x ∷ xs) (y ∷ ys) all zero d e within = all.0
zipped_at R (x ∷ xs) (y ∷ ys) all (suc k) d e within = zipped_at R xs ys all.1 k d e (omega arith)

zipped_long : {A B : Type 0} (R : A → B → Type 0) (xs : List A) (ys : List B) → AllZip R xs ys
    → length xs ≡ length ys
zipped_long R [] [] all = refl
zipped_long R [] (y ∷ ys) all = elim all [ ]
zipped_long R (x ∷ xs) [] all = elim all [ ]
zipped_long R (x ∷ xs) (y ∷ ys) all = let h : length xs ≡ length ys = zipped_long R xs ys all.1 in omega arith

pub places_long : (x : Rules) (places : List ℕ) → ControlledPlaces x places
    → length x.controlled ≡ length places
unfolding ControlledPlaces
places_long x places all =
    zipped_long (λ (link place : ℕ). slice_get x.tracked place ≡ Some link) x.controlled places all

pub place_is : (x : Rules) (places : List ℕ) (i : ℕ) → ControlledPlaces x places
    → i < length x.controlled
    → slice_get x.tracked (get_or places i 0) ≡ slice_get x.controlled i
unfolding ControlledPlaces
place_is x places i all within =
    zipped_at (λ (link place : ℕ). slice_get x.tracked place ≡ Some link) x.controlled places all i 0 0 within
    ∙ sym (slice_get-get_or x.controlled i 0 within)

pub link_is : (x : Rules) (i link : ℕ) (links : List ℕ) → i < length x.controlled
    → links ≡ x.controlled → slice_get x.controlled i ≡ Some link → get_or links i 0 ≡ link
link_is x i link links within same is =
    ap (λ l. get_or l i 0) same
    ∙ same_Some (get_or x.controlled i 0) link (sym (slice_get-get_or x.controlled i 0 within) ∙ is)

-- ---- one order
joined : (done : List Order) (order : Order) (later : Result (List Order) Stop)
    → prepended done (later >>= λ more. Ok (order ∷ more)) ≡ prepended (done ++ order ∷ []) later
joined done order (Ok more) = ap (λ (l : List Order). Ok l) (sym (append_assoc done (order ∷ []) more))
joined done order (Err stop) = refl

pub added_ok : (x : Rules) (tables : TableSet) (s : State) (m : ℕ → PidMemory) (link other : ℕ)
    (at : ActionAt) (order : Order) (old new : List Order) (later : Result (List Order) Stop)
    → link ≡ other → Ok order ≡ order_of x tables s m link at → new ≡ old ++ order ∷ []
    → prepended old (order_then x tables s m other (Some at) later) ≡ prepended new later
added_ok x tables s m link other at order old new later same is pushed =
    ap (λ (r : Result Order Stop). prepended old (r >>= λ first. later >>= λ more. Ok (first ∷ more)))
    (sym (is ∙ ap (λ l. order_of x tables s m l at) same))
    ∙ joined old order later
    ∙ ap (λ l. prepended l later) (sym pushed)

pub added_stop : (x : Rules) (tables : TableSet) (s : State) (m : ℕ → PidMemory) (link other : ℕ)
    (at : ActionAt) (stop : Stop) (old : List Order) (later : Result (List Order) Stop)
    → link ≡ other → Err stop ≡ order_of x tables s m link at
    → prepended old (order_then x tables s m other (Some at) later) ≡ Err stop
added_stop x tables s m link other at stop old later same is =
    ap (λ (r : Result Order Stop). prepended old (r >>= λ first. later >>= λ more. Ok (first ∷ more)))
    (sym (is ∙ ap (λ l. order_of x tables s m l at) same))

-- ---- numbers
pub number_is : (x : Rules) (tables : TableSet) (s : State) (m : ℕ → PidMemory) (conditions : List Condition)
    (action : Action) (q value : Rational) (link : ℕ) (rate : Rational)
    → action.link ≡ link → action.what ≡ Constant q → Ok value ≡ capped rate (Ok q) → rate ≡ rate_of x link
    → worth x tables s m conditions action ≡ Ok value
unfolding worth what_worth
number_is x tables s m conditions action q value link rate on what is same =
    (λ i. capped (rate_of x (on i)) (what_worth x tables s m conditions (on i) (what i)))
    ∙ ap (λ (r : Rational). capped r (Ok q)) (sym same)
    ∙ sym is

pub number_order : (x : Rules) (tables : TableSet) (s : State) (m : ℕ → PidMemory) (link : ℕ)
    (at : ActionAt) (action : Action) (value : Rational)
    → Some action ≡ action_at x.rules at
    → worth x tables s m (conditions_at x.rules at) action ≡ Ok value
    → Ok (record { link = link; by = at; value = value }) ≡ order_of x tables s m link at
unfolding order_of
number_order x tables s m link at action value there is =
    sym (ap (λ (a : Option Action). ordered link at (action_worth x tables s m (conditions_at x.rules at) a)) (sym there)
    ∙ ap (ordered link at) is)

-- ---- the links in a row
pub none_before : (orders : List Order) (r : Result (List Order) Stop) → orders ≡ []
    → prepended orders r ≡ r
none_before orders (Ok more) none = ap (λ l. prepended l (Ok more)) none
none_before orders (Err stop) none = ap (λ l. prepended l (Err stop)) none

pub orders_at : (choice : Choice) (x : Rules) (tables : TableSet) (s : State) (m : ℕ → PidMemory)
    (firsts : List (Option ActionAt)) (k : ℕ) (e : Option ActionAt)
    → k < length x.controlled → firsts ≡ map (choice s) x.controlled
    → orders_on choice x tables s m (drop k x.controlled)
    ≡ order_then x tables s m (get_or x.controlled k 0) (get_or firsts k e)
    (orders_on choice x tables s m (drop (k + 1) x.controlled))
unfolding orders_on
orders_at choice x tables s m firsts k e within are =
    ap (orders_on choice x tables s m) (drop_more x.controlled k 0 within)
    ∙ ap (λ o. order_then x tables s m (get_or x.controlled k 0) o (orders_on choice x tables s m (drop (k + 1) x.controlled)))
    (sym (ap (λ l. get_or l k e) are ∙ get_or-map (choice s) x.controlled k 0 e within))

pub orders_step : (choice : Choice) (x : Rules) (tables : TableSet) (s : State) (m : ℕ → PidMemory)
    (firsts : List (Option ActionAt)) (k : ℕ) (e : Option ActionAt) (old : List Order)
    (all now : Result (List Order) Stop)
    → k < length x.controlled → firsts ≡ map (choice s) x.controlled
    → prepended old (orders_on choice x tables s m (drop k x.controlled)) ≡ all
    → ((link : ℕ) (later : Result (List Order) Stop) → slice_get x.controlled k ≡ Some link
    → prepended old (order_then x tables s m link (get_or firsts k e) later) ≡ now)
    → now ≡ all
orders_step choice x tables s m firsts k e old all now within are goes step =
    sym (step (get_or x.controlled k 0) (orders_on choice x tables s m (drop (k + 1) x.controlled)) (slice_get-get_or x.controlled k 0 within))
    ∙ ap (prepended old) (sym (orders_at choice x tables s m firsts k e within are))
    ∙ goes

pub orders_more : (choice : Choice) (x : Rules) (tables : TableSet) (s : State) (m : ℕ → PidMemory)
    (firsts : List (Option ActionAt)) (k : ℕ) (e : Option ActionAt) (old new : List Order)
    (all : Result (List Order) Stop)
    → k < length x.controlled → firsts ≡ map (choice s) x.controlled
    → prepended old (orders_on choice x tables s m (drop k x.controlled)) ≡ all
    → ((link : ℕ) (later : Result (List Order) Stop) → slice_get x.controlled k ≡ Some link
    → prepended old (order_then x tables s m link (get_or firsts k e) later) ≡ prepended new later)
    → prepended new (orders_on choice x tables s m (drop (k + 1) x.controlled)) ≡ all
orders_more choice x tables s m firsts k e old new all within are goes step =
    sym (step (get_or x.controlled k 0) (orders_on choice x tables s m (drop (k + 1) x.controlled)) (slice_get-get_or x.controlled k 0 within))
    ∙ ap (prepended old) (sym (orders_at choice x tables s m firsts k e within are))
    ∙ goes

pub orders_end : (choice : Choice) (x : Rules) (tables : TableSet) (s : State) (m : ℕ → PidMemory)
    (k : ℕ) (old : List Order) (all : Result (List Order) Stop)
    → length x.controlled ≤ k
    → prepended old (orders_on choice x tables s m (drop k x.controlled)) ≡ all → Ok old ≡ all
unfolding orders_on
orders_end choice x tables s m k old all past goes =
    ap (λ (l : List Order). Ok l) (sym (append-nil old))
    ∙ ap (λ l. prepended old (orders_on choice x tables s m l)) (sym (drop_all k x.controlled past))
    ∙ goes

-- ---- the places of links
zipped_push : {A B : Type 0} (R : A → B → Type 0) (xs : List A) (ys : List B) (one : A) (other : B)
    → AllZip R xs ys → R one other → AllZip R (xs ++ one ∷ []) (ys ++ other ∷ [])
zipped_push R [] [] one other all here = (here, tt)
zipped_push R [] (y ∷ ys) one other all here = elim all [ ]
zipped_push R (x ∷ xs) [] one other all here = elim all [ ]
zipped_push R (x ∷ xs) (y ∷ ys) one other all here = (all.0, zipped_push R xs ys one other all.1 here)

pub places_more : (x : Rules) (items : List ℕ) (places new : List ℕ) (i place : ℕ)
    → items ≡ x.controlled → i < length items
    → AllZip (λ (link at : ℕ). slice_get x.tracked at ≡ Some link) (take i x.controlled) places
    → slice_get x.tracked place ≡ Some (get_or items i 0) → new ≡ places ++ place ∷ []
    → AllZip (λ (link at : ℕ). slice_get x.tracked at ≡ Some link) (take (i + 1) x.controlled) new
places_more x items places new i place same within all here pushed =
    let inside : i < length x.controlled = omega (arith, within, ap length same) in
    let is : slice_get x.tracked place ≡ Some (get_or x.controlled i 0) = here ∙ ap (λ l. Some (get_or l i 0)) same in
    subst (λ (l : List ℕ). AllZip (λ (link at : ℕ). slice_get x.tracked at ≡ Some link) l new)
    (sym (take_more x.controlled i 0 inside))
    (subst (λ (l : List ℕ). AllZip (λ (link at : ℕ). slice_get x.tracked at ≡ Some link) (take i x.controlled ++ get_or x.controlled i 0 ∷ []) l)
    (sym pushed)
    (zipped_push (λ (link at : ℕ). slice_get x.tracked at ≡ Some link) (take i x.controlled) places (get_or x.controlled i 0) place all is))

pub places_all : (x : Rules) (items : List ℕ) (places : List ℕ) (i : ℕ)
    → items ≡ x.controlled → length items ≤ i
    → AllZip (λ (link at : ℕ). slice_get x.tracked at ≡ Some link) (take i x.controlled) places
    → ControlledPlaces x places
unfolding ControlledPlaces
places_all x items places i same past all =
    subst (λ (l : List ℕ). AllZip (λ (link at : ℕ). slice_get x.tracked at ≡ Some link) l places)
    (take_all i x.controlled (omega (arith, past, ap length same))) all

pub tracked_link : (x : Rules) (items tracked : List ℕ) (i : ℕ) → WellFormed x
    → items ≡ x.controlled → tracked ≡ x.tracked → i < length items
    → Contains tracked (get_or items i 0)
tracked_link x items tracked i formed same tracks within =
    let inside : i < length x.controlled = omega (arith, within, ap length same) in
    subst (λ (l : List ℕ). Contains l (get_or items i 0)) (sym tracks)
    (subst (λ (link : ℕ). Contains x.tracked link) (sym (ap (λ l. get_or l i 0) same))
    ((opened-lists x formed.lists).controlled i 0 inside))

past_by : (t : Bool) (m n : ℕ) → nat_lt m n ≡ t → cond t (Some m) None ≡ None → n ≤ m
past_by true m n is h = absurd (none-some m (sym h))
past_by false m n is h = grind (arith, nat_tests)

fails_by : (b : Bool) (m n : ℕ) → suc n ≤ cond (not b) (1 + m) 0 → (b ≡ false) × (n ≤ m)
fails_by true m n h = absurd (omega (arith, h))
fails_by false m n h = (refl, omega (arith, h))

all_fail : (passes : ℕ → Bool) (things : List ℕ)
    → length things ≤ position_or_len passes things
    → (j other : ℕ) → slice_get things j ≡ Some other → passes other ≡ false
all_fail passes [] h j other at = absurd (none-some other at)
all_fail passes (first ∷ things) h zero other at =
    ap passes (sym (same_Some first other at))
    ∙ (fails_by (passes first) (position_or_len passes things) (length things) h).0
all_fail passes (first ∷ things) h (suc j) other at =
    all_fail passes things
    (fails_by (passes first) (position_or_len passes things) (length things) h).1 j other at

pub not_absent : (links : List ℕ) (link : ℕ) → Contains links link
    → position (λ other. link == other) links ≡ None → ⊥
not_absent links link among none =
    let past = past_by (nat_lt (position_or_len (λ other. link == other) links) (length links)) _ _ refl none in
    let fails : (link == link) ≡ false =
    all_fail (λ other. link == other) links past among.0 link (slice_get-get_or links among.0 link among.1 ∙ ap Some among.2) in
    grind (arith, nat_tests)
