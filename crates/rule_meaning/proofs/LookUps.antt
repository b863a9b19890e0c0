-- What stands beside things in two lists side by side, by places.
use Rattle.std.proofs.Common.{◌≡◌, ℕ, zero as nothing, suc, ◌+◌, ◌-◌, ◌<◌, ◌≤◌, ◌==◌, nat_lt, Bool}
use Rattle.std.proofs.Common.{true, false, not, Some, None, Less, Greater}
use Rattle.std.proofs.Common.{List, [], ◌∷◌, length, position, option_and_then, refl, sym, ap}
use Rattle.std.proofs.Common.{subst, ◌∙◌, arith, cond, get_or}
use Rattle.std.proofs.lemmas.Bool.Decides.{nat_tests}
use Rattle.std.proofs.lemmas.Cmp.{nat_list_cmp_total}
use Rattle.std.proofs.lemmas.List.Kept.{AllPairs-from_increasing}
use Rattle.std.proofs.lemmas.List.Quantifiers.{position-Some}
use Rattle.std.proofs.lemmas.Map.Text.{is_eq-slice_cmp}
use Rattle.std.proofs.lemmas.Slice.Eq.{bytes_eq-Decides}
use Rattle.std.proofs.lemmas.Option.{none-some, same_Some, slice_get_within, slice_get-get_or}
use Rattle.std.proofs.lemmas.Option.{get_or_from_slice_get}
use Rattle.std.specs.Prelude.{IfSome, IsTrue, bytes_eq, slice_get}
use Rattle.std.specs.List.{All, position_or_len}
use Rattle.std.specs.List.Sorted.{IsStrictlyIncreasing}
use Rattle.std.specs.Ordering.{nat_cmp, is_eq, ordering_reverse}
use Rattle.std.specs.Cmp.Lexicographic.{slice_cmp}
use Rattle.exact_fraction.specs.Number.{Rational}
use Rattle.rule_types.specs.declared.condition.Condition.{Condition}
use Rattle.rule_types.specs.declared.key.Attr.{Attr}
use Rattle.rule_types.specs.declared.key.Attr.TheVariants.{Setting, Status, TimeOpen, TimeClosed}
use Rattle.rule_types.specs.declared.key.Key.{Key}
use Rattle.rule_types.specs.declared.key.Key.TheVariants.{Object, Clock}
use Rattle.rule_types.specs.declared.object.ObjectNo.{ObjectNo}
use Rattle.rule_types.specs.declared.rules.Rules.{Rules}
use Rattle.rule_types.specs.declared.state.LinkState.{LinkState}
use Rattle.rule_types.specs.declared.state.State.{State}
use Rattle.rule_types.specs.Fitting.{LinkFits}
use Rattle.rule_types.specs.KeyOrder.{key_place, key_cmp, IsInKeyOrder}
use Rattle.rule_types.specs.Keys.{is_input, is_link_state}
use Rattle.rule_types.specs.WellFormed.{InOrder}
use Rattle.rule_types.proofs.PublicLaws.{opened-orders}
use Rattle.rule_meaning.specs.State.{beside, input_value, link_state, link_value, value}
use Rattle.rule_meaning.specs.Worth.{last_of, rate_or_zero, rate_of, true_or_false, is_pump}
use Rattle.rule_meaning.specs.Worth.{target_or_zero, old_target}
use Rattle.rule_meaning.proofs.OrderValues.{each, found_beside}

-- ---- any two lists
passing_first : {A B : Type 0} (passes : A → Bool) (thing : A) (things : List A) (one : B)
    (values : List B)
    → passes thing ≡ true → beside passes (thing ∷ things) (one ∷ values) ≡ Some one
unfolding beside
passing_first passes thing things one values holds = rw holds refl

failing_first : {A B : Type 0} (passes : A → Bool) (thing : A) (things : List A) (one : B)
    (values : List B)
    → passes thing ≡ false → beside passes (thing ∷ things) (one ∷ values)
    ≡ beside passes things values
unfolding beside
failing_first passes thing things one values none = rw none refl

pub beside_at : {A B : Type 0} (passes : A → Bool) (things : List A) (values : List B) (k : ℕ)
    (thing : A)
    → slice_get things k ≡ Some thing → passes thing ≡ true
    → ((j : ℕ) (other : A) → j < k → slice_get things j ≡ Some other → passes other ≡ false)
    → length values ≡ length things → beside passes things values ≡ slice_get values k
unfolding beside
beside_at passes [] values k thing is holds earlier long = absurd (none-some thing is)
beside_at passes (first ∷ things) [] k thing is holds earlier long = absurd (omega (arith, long))
beside_at passes (first ∷ things) (one ∷ values) nothing thing is holds earlier long =
    passing_first passes first things one values (ap passes (same_Some first thing is) ∙ holds)
beside_at passes (first ∷ things) (one ∷ values) (suc k) thing is holds earlier long =
    failing_first passes first things one values (earlier 0 first (omega arith) refl)
    ∙ beside_at passes things values k thing is holds
    (λ j other below at. earlier (suc j) other (omega (arith, below)) at) (omega (arith, long))

pub none_beside : {A B : Type 0} (passes : A → Bool) (things : List A) (values : List B)
    → ((j : ℕ) (other : A) → slice_get things j ≡ Some other → passes other ≡ false)
    → beside passes things values ≡ None
unfolding beside
none_beside passes [] values all = refl
none_beside passes (first ∷ things) [] all = refl
none_beside passes (first ∷ things) (one ∷ values) all =
    failing_first passes first things one values (all 0 first refl)
    ∙ none_beside passes things values (λ j other at. all (suc j) other at)

-- the same by the place of the first thing that passes
pub beside_found : {A B : Type 0} (passes : A → Bool) (things : List A) (values : List B) (k : ℕ)
    → position passes things ≡ Some k → length values ≡ length things
    → beside passes things values ≡ slice_get values k
beside_found passes [] values k is long = absurd (none-some k is)
beside_found passes (first ∷ things) values k is long =
    let found = position-Some passes (first ∷ things) k first is in
    beside_at passes (first ∷ things) values k (get_or (first ∷ things) k first)
    (slice_get-get_or (first ∷ things) k first found.0) found.1
    (λ j other below at.
    ap passes (sym (get_or_from_slice_get (first ∷ things) j other first at)) ∙ found.2 j below)
    long

past_by : (t : Bool) (m n : ℕ) → nat_lt m n ≡ t → cond t (Some m) None ≡ None → n ≤ m
past_by true m n is h = absurd (none-some m (sym h))
past_by false m n is h = grind (arith, nat_tests)

fails_by : (b : Bool) (m n : ℕ) → suc n ≤ cond (not b) (1 + m) 0 → (b ≡ false) × (n ≤ m)
fails_by true m n h = absurd (omega (arith, h))
fails_by false m n h = (refl, omega (arith, h))

all_fail : {A : Type 0} (passes : A → Bool) (things : List A)
    → length things ≤ position_or_len passes things
    → (j : ℕ) (other : A) → slice_get things j ≡ Some other → passes other ≡ false
all_fail passes [] h j other at = absurd (none-some other at)
all_fail passes (first ∷ things) h nothing other at =
    ap passes (sym (same_Some first other at))
    ∙ (fails_by (passes first) (position_or_len passes things) (length things) h).0
all_fail passes (first ∷ things) h (suc j) other at =
    all_fail passes things
    (fails_by (passes first) (position_or_len passes things) (length things) h).1 j other at

pub beside_absent : {A B : Type 0} (passes : A → Bool) (things : List A) (values : List B)
    → position passes things ≡ None → beside passes things values ≡ None
beside_absent passes things values h =
    none_beside passes things values
    (all_fail passes things
    (past_by (nat_lt (position_or_len passes things) (length things)) _ _ refl h))

-- ---- links
link_apart : (links : List ℕ) (j k link other : ℕ) → IsStrictlyIncreasing links
    → slice_get links k ≡ Some link
    → j < k → slice_get links j ≡ Some other → (link == other) ≡ false
link_apart links j k link other rising is below at =
    let within : k < length links = slice_get_within links k link is in
    let less : get_or links j 0 < get_or links k 0 =
    AllPairs-from_increasing links rising j k 0 below within in
    let first : get_or links j 0 ≡ other = get_or_from_slice_get links j other 0 at in
    let second : get_or links k 0 ≡ link = get_or_from_slice_get links k link 0 is in
    let above : other < link = omega (arith, less, first, second) in
    grind (arith, nat_tests)

pub link_beside : {B : Type 0} (links : List ℕ) (values : List B) (k link : ℕ)
    → IsStrictlyIncreasing links
    → slice_get links k ≡ Some link → length values ≡ length links
    → beside (λ other. link == other) links values ≡ slice_get values k
link_beside links values k link rising is long =
    let same : (link == link) ≡ true = grind (arith, nat_tests) in
    beside_at (λ other. link == other) links values k link is same
    (λ j other below at. link_apart links j k link other rising is below at) long

pub link_state_at : (x : Rules) (s : State) (k link : ℕ) → InOrder x
    → length s.links ≡ length x.tracked
    → slice_get x.tracked k ≡ Some link → link_state x s link ≡ slice_get s.links k
unfolding link_state
link_state_at x s k link order long is =
    link_beside x.tracked s.links k link (opened-orders x order).tracked is long

pub rate_at : (x : Rules) (k link : ℕ) (rate : Rational) → InOrder x
    → length x.rates ≡ length x.tracked
    → slice_get x.tracked k ≡ Some link → slice_get x.rates k ≡ Some rate → rate_of x link ≡ rate
unfolding rate_of
rate_at x k link rate order long is at =
    ap rate_or_zero
    (link_beside x.tracked x.rates k link (opened-orders x order).tracked is long ∙ at)

pub pump_at : (x : Rules) (k link : ℕ) (pump : Bool) → InOrder x
    → length x.pumps ≡ length x.controlled
    → slice_get x.controlled k ≡ Some link → slice_get x.pumps k ≡ Some pump → is_pump x link ≡ pump
unfolding is_pump
pump_at x k link pump order long is at =
    ap true_or_false
    (link_beside x.controlled x.pumps k link (opened-orders x order).controlled is long ∙ at)

pub old_target_at : (x : Rules) (s : State) (k link : ℕ) (at : LinkState) → InOrder x
    → length s.links ≡ length x.tracked
    → slice_get x.tracked k ≡ Some link → slice_get s.links k ≡ Some at
    → old_target x s link ≡ at.target
unfolding old_target
old_target_at x s k link at order long is there =
    ap target_or_zero (link_state_at x s k link order long is ∙ there)

pub link_state_fits : (x : Rules) (s : State) (link : ℕ) → All LinkFits s.links
    → IfSome (link_state x s link) LinkFits
unfolding link_state
link_state_fits x s link fits =
    found_beside LinkFits (λ other. link == other) x.tracked s.links (each LinkFits s.links fits)

-- ---- input keys
later_keys : (key : Key) (keys : List Key) → IsInKeyOrder (key ∷ keys) → IsInKeyOrder keys
later_keys key keys h = λ k d below. (let next : suc k + 1 ≡ suc (k + 1) = omega arith in
    subst (λ m. key_cmp (get_or (key ∷ keys) (suc k) d) (get_or (key ∷ keys) m d) ≡ Less) next
    (h (suc k) d (omega (arith, below))))

first_key : (key : Key) (keys : List Key) (j : ℕ) (other : Key) → IsInKeyOrder (key ∷ keys)
    → slice_get keys j ≡ Some other → key_cmp key other ≡ Less
first_key key [] j other h is = absurd (none-some other is)
first_key key (next ∷ keys) nothing other h is =
    subst (λ z. key_cmp key z ≡ Less) (same_Some next other is) (h 0 key (omega arith))
first_key key (next ∷ keys) (suc j) other h is =
    nat_list_cmp_total.trans (key_place key) (key_place next) (key_place other)
    (h 0 key (omega arith))
    (first_key next keys j other (later_keys key (next ∷ keys) h) is)

earlier_key : (keys : List Key) (j k : ℕ) (key other : Key) → IsInKeyOrder keys
    → slice_get keys k ≡ Some key
    → j < k → slice_get keys j ≡ Some other → key_cmp other key ≡ Less
earlier_key [] j k key other h is below at = absurd (none-some key is)
earlier_key (first ∷ keys) j nothing key other h is below at = absurd (omega (arith, below))
earlier_key (first ∷ keys) nothing (suc k) key other h is below at =
    subst (λ z. key_cmp z key ≡ Less) (same_Some first other at) (first_key first keys k key h is)
earlier_key (first ∷ keys) (suc j) (suc k) key other h is below at =
    earlier_key keys j k key other (later_keys first keys h) is (omega (arith, below)) at

key_apart : (key other : Key) → key_cmp other key ≡ Less
    → bytes_eq (key_place key) (key_place other) ≡ false
key_apart key other less =
    let after : slice_cmp nat_cmp (key_place key) (key_place other) ≡ Greater =
    nat_list_cmp_total.antisymm (key_place key) (key_place other) ∙ ap ordering_reverse less in
    sym (is_eq-slice_cmp (key_place key) (key_place other)) ∙ ap is_eq after

key_itself : (key : Key) → bytes_eq (key_place key) (key_place key) ≡ true
key_itself key = (bytes_eq-Decides (key_place key) (key_place key)).1 refl

pub input_at : (x : Rules) (s : State) (k : ℕ) (key : Key) → InOrder x
    → length s.inputs ≡ length x.input_keys
    → slice_get x.input_keys k ≡ Some key
    → input_value x s key ≡ option_and_then (λ given. given) (slice_get s.inputs k)
unfolding input_value
input_at x s k key order long is =
    ap (option_and_then (λ given. given))
    (beside_at (λ other. bytes_eq (key_place key) (key_place other)) x.input_keys s.inputs k key is
    (key_itself key)
    (λ j other below at. key_apart key other
    (earlier_key x.input_keys j k key other (opened-orders x order).input_keys is below at))
    long)

-- ---- where the value of a key comes from
pub value_of_link : (x : Rules) (s : State) (object : ObjectNo) (attribute : Attr)
    → IsTrue (is_link_state attribute)
    → value x s (Object object attribute)
    ≡ option_and_then (link_value attribute) (link_state x s object.index)
unfolding value
value_of_link x s object Setting h = refl
value_of_link x s object Status h = refl
value_of_link x s object TimeOpen h = refl
value_of_link x s object TimeClosed h = refl
value_of_link x s object attribute h = grind arith

pub value_of_input : (x : Rules) (s : State) (key : Key) → IsTrue (is_input key)
    → value x s key ≡ input_value x s key
unfolding value
value_of_input x s (Object object Setting) h = grind arith
value_of_input x s (Object object Status) h = grind arith
value_of_input x s (Object object TimeOpen) h = grind arith
value_of_input x s (Object object TimeClosed) h = grind arith
value_of_input x s (Object object attribute) h = refl
value_of_input x s (Clock attribute) h = grind arith

-- ---- the last condition
last_after : (first : Condition) (more : List Condition)
    → last_of (first ∷ more) ≡ slice_get (first ∷ more) (length more)
last_after first [] = refl
last_after first (next ∷ more) = last_after next more

pub last_at : (conditions : List Condition)
    → last_of conditions ≡ slice_get conditions (length conditions - 1)
last_at [] = refl
last_at (c ∷ more) =
    let e : length more ≡ suc (length more) - 1 = omega arith in
    last_after c more ∙ ap (slice_get (c ∷ more)) e
