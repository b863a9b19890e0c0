-- The keys of a grid rise, and the SETTING of a timer's link is among them before the timer.
use Rattle.std.proofs.Common.{◌≡◌, ℕ, ◌+◌, ◌<◌, Bool, true, false, ◌||◌, List, [], ◌∷◌, ◌++◌, refl}
use Rattle.std.proofs.Common.{sym, ap, ap₂, subst, ◌∙◌, arith}
use Rattle.std.proofs.lemmas.Bool.{true≢false}
use Rattle.std.proofs.lemmas.Cmp.{nat_cmp_total, nat_list_cmp_total}
use Rattle.std.proofs.lemmas.List.Folds.{list_any-append}
use Rattle.std.proofs.lemmas.Map.Text.{is_eq-slice_cmp}
use Rattle.std.specs.Cmp.Lexicographic.{slice_cmp}
use Rattle.std.specs.List.{AllByRecursion, flat_map, list_any}
use Rattle.std.specs.Ordering.{is_eq, nat_cmp, ordering_reverse, ordering_then}
use Rattle.std.specs.declared.cmp.Ordering.{Ordering}
use Rattle.std.specs.declared.cmp.Ordering.TheVariants.{Less, Equal, Greater}
use Rattle.rule_types.specs.declared.key.Attr.{Attr}
use Rattle.rule_types.specs.declared.key.Attr.TheVariants as attr
use Rattle.rule_types.specs.declared.key.Key.{Key}
use Rattle.rule_types.specs.declared.key.Key.TheVariants.{Object, Clock}
use Rattle.rule_types.specs.declared.object.ObjectNo.{ObjectNo}
use Rattle.rule_types.specs.declared.object.Space.TheVariants.{Links}
use Rattle.rule_types.specs.declared.rules.Rules.{Rules}
use Rattle.rule_types.specs.KeyOrder.{attribute_place, key_cmp, key_place, space_place}
use Rattle.rule_types.specs.Reading.{keys_read}
use Rattle.verdict_meaning.specs.Questions.{asked_rules, grid_keys, grid_keys_of, in_key_order}
use Rattle.verdict_meaning.specs.Questions.{limit_keys, placed_by, with_key}
use Rattle.verdict_meaning.specs.Reaches.{same_key}
use Rattle.verdict_meaning.specs.declared.question.Question.{Question}
use Rattle.verdict_meaning.specs.declared.question.Question.TheVariants.{Conflict, Dead, Limit}
use Rattle.report_round_trips.proofs.SampleWhole.{is_among, is_same, not_same, same_itself}
use Rattle.report_round_trips.proofs.SampleWhole.{same_keys}

-- ---- keys that rise
abbrev pub IsBefore : Key → Key → Type 0
IsBefore a b = key_cmp a b ≡ Less

unfoldable pub Rise : List Key → Type 0
Rise [] = Unit {0}
Rise (key ∷ more) = AllByRecursion (IsBefore key) more × Rise more

before_all : (a b : Key) (keys : List Key) → IsBefore a b → AllByRecursion (IsBefore b) keys
    → AllByRecursion (IsBefore a) keys
before_all a b [] less h = tt
before_all a b (key ∷ more) less h = (
  nat_list_cmp_total.trans (key_place a) (key_place b) (key_place key) less h.0,
  before_all a b more less h.1,
)

each_placed : (P : Key → Type 0) (key : Key) (keys : List Key) → P key → AllByRecursion P keys
    → AllByRecursion P (with_key key keys)
unfolding with_key
each_placed P key [] p h = (p, tt)
each_placed P key (next ∷ more) p h =
    by_order (key_cmp key next) (each_placed P key more p h.1)
  where
    by_order : (o : Ordering) → AllByRecursion P (with_key key more)
        → AllByRecursion P (placed_by o key next more (with_key key more))
    by_order Less later = (p, h)
    by_order Equal later = h
    by_order Greater later = (h.0, later)

turned : (a b : Key) (o : Ordering) → key_cmp a b ≡ o → key_cmp b a ≡ ordering_reverse o
turned a b o is =
    nat_list_cmp_total.antisymm (key_place b) (key_place a) ∙ ap ordering_reverse is

rise_placed : (key next : Key) (more later : List Key) (o : Ordering) → key_cmp key next ≡ o
    → AllByRecursion (IsBefore next) more → Rise more
    → (IsBefore next key → AllByRecursion (IsBefore next) later) → Rise later
    → Rise (placed_by o key next more later)
unfolding Rise
rise_placed key next more later Less is h rest above rising =
    ((is, before_all key next more is h), (h, rest))
rise_placed key next more later Equal is h rest above rising = (h, rest)
rise_placed key next more later Greater is h rest above rising =
    (above (turned key next Greater is), rising)

rise_with : (key : Key) (keys : List Key) → Rise keys → Rise (with_key key keys)
unfolding with_key Rise
rise_with key [] h = (tt, tt)
rise_with key (next ∷ more) h =
    rise_placed key next more (with_key key more) (key_cmp key next) refl h.0 h.1
    (λ less. each_placed (IsBefore next) key more less h.0) (rise_with key more h.1)

rise_ordered : (keys : List Key) → Rise (in_key_order keys)
unfolding in_key_order Rise
rise_ordered [] = tt
rise_ordered (key ∷ more) = rise_with key (in_key_order more) (rise_ordered more)

pub grid_rises : (x : Rules) (question : Question) → Rise (grid_keys x question)
unfolding grid_keys
grid_rises x question = rise_ordered _

-- ---- keys among others
abbrev is_less : Ordering → Bool
is_less Less = true
is_less Equal = false
is_less Greater = false

not_less : (o : Ordering) → o ≡ Less → is_less o ≡ false → ⊥
not_less o is apart = true≢false (sym (ap is_less is) ∙ apart)

pub before_among : (key one : Key) (keys : List Key) → AllByRecursion (IsBefore key) keys
    → is_among one keys ≡ true → IsBefore key one
before_among key one [] h among = absurd (true≢false (sym among))
before_among key one (other ∷ more) h among =
    by_test (same_key one other) refl among (before_among key one more h.1)
  where
    by_test : (b : Bool) → same_key one other ≡ b → (b || is_among one more) ≡ true
        → (is_among one more ≡ true → IsBefore key one) → IsBefore key one
    by_test true is among later = subst (IsBefore key) (sym (same_keys one other is)) h.0
    by_test false is among later = later among

among_placed : (one key next : Key) (more later : List Key) (o : Ordering)
    → key_cmp key next ≡ o → is_among one later ≡ (same_key one key || is_among one more)
    → is_among one (placed_by o key next more later)
    ≡ (same_key one key || is_among one (next ∷ more))
among_placed one key next more later Less is h = refl
among_placed one key next more later Equal is h =
    subst (λ other. (same_key one next || is_among one more)
    ≡ (same_key one other || (same_key one next || is_among one more)))
    (sym (same_keys key next (is_same key next is))) (again (same_key one next) (is_among one more))
  where
    again : (a b : Bool) → (a || b) ≡ (a || (a || b))
    again true b = refl
    again false b = refl
among_placed one key next more later Greater is h =
    ap (λ b. same_key one next || b) h
    ∙ turn (same_key one next) (same_key one key) (is_among one more)
  where
    turn : (a b c : Bool) → (a || (b || c)) ≡ (b || (a || c))
    turn true true c = refl
    turn true false c = refl
    turn false true c = refl
    turn false false c = refl

among_with : (one key : Key) (keys : List Key)
    → is_among one (with_key key keys) ≡ (same_key one key || is_among one keys)
unfolding with_key
among_with one key [] = refl
among_with one key (next ∷ more) =
    among_placed one key next more (with_key key more) (key_cmp key next) refl
    (among_with one key more)

among_ordered : (one : Key) (keys : List Key)
    → is_among one (in_key_order keys) ≡ is_among one keys
unfolding in_key_order
among_ordered one [] = refl
among_ordered one (key ∷ more) =
    among_with one key (in_key_order more)
    ∙ ap (λ b. same_key one key || b) (among_ordered one more)

-- ---- timers
-- TIMEOPEN or TIMECLOSED
abbrev pub timer_of : Bool → Attr
timer_of true = attr.TimeOpen
timer_of false = attr.TimeClosed

low_place : (open_one : Bool) (n : ℕ) → n < 13 → attribute_place (timer_of open_one) ≡ n → ⊥
low_place true n h e = omega (arith, h, e)
low_place false n h e = omega (arith, h, e)

high_place : (open_one : Bool) (n : ℕ) → 14 < n → attribute_place (timer_of open_one) ≡ n → ⊥
high_place true n h e = omega (arith, h, e)
high_place false n h e = omega (arith, h, e)

abbrev pub setting_of : ObjectNo → Key
setting_of object = Object object attr.Setting

third : List ℕ → ℕ
third [] = 0
third (a ∷ []) = 0
third (a ∷ b ∷ []) = 0
third (a ∷ b ∷ c ∷ more) = c

object_of : Key → ObjectNo → ObjectNo
object_of (Object object attribute) other = object
object_of (Clock attribute) other = other

pub same_place : (object other : ObjectNo) (t u : Attr)
    → same_key (Object object t) (Object other u) ≡ true
    → attribute_place t ≡ attribute_place u
unfolding third
same_place object other t u is =
    ap (λ key. third (key_place key)) (same_keys (Object object t) (Object other u) is)

same_object : (object other : ObjectNo) (t u : Attr)
    → same_key (Object object t) (Object other u) ≡ true → object ≡ other
unfolding object_of
same_object object other t u is =
    ap (λ key. object_of key object) (same_keys (Object object t) (Object other u) is)

-- where a timer is among keys, so is the SETTING of its link
abbrev HasSetting : ObjectNo → Attr → List Key → Type 0
HasSetting object t keys =
    is_among (Object object t) keys ≡ true → is_among (setting_of object) keys ≡ true

joined : (object : ObjectNo) (t : Attr) (front back : List Key) → HasSetting object t front
    → HasSetting object t back → HasSetting object t (front ++ back)
joined object t front back first second among =
    list_any-append (same_key (setting_of object)) front back
    ∙ by_test (is_among (Object object t) front) refl
    (sym (list_any-append (same_key (Object object t)) front back) ∙ among)
  where
    or_true : (b : Bool) → (b || true) ≡ true
    or_true true = refl
    or_true false = refl

    by_test : (b : Bool) → is_among (Object object t) front ≡ b
        → (b || is_among (Object object t) back) ≡ true
        → (is_among (setting_of object) front || is_among (setting_of object) back) ≡ true
    by_test true is h = ap (λ c. c || is_among (setting_of object) back) (first is)
    by_test false is h =
        ap (λ c. is_among (setting_of object) front || c) (second h)
        ∙ or_true (is_among (setting_of object) front)

flat : (object : ObjectNo) (t : Attr) → ((key : Key) → HasSetting object t (grid_keys_of key))
    → (keys : List Key) → HasSetting object t (flat_map grid_keys_of keys)
flat object t each [] among = absurd (true≢false (sym among))
flat object t each (key ∷ more) among =
    joined object t (grid_keys_of key) (flat_map grid_keys_of more) (each key)
    (flat object t each more) among

-- one key that is no timer of this kind
alone : (object other : ObjectNo) (t u : Attr)
    → (attribute_place t ≡ attribute_place u → ⊥) → HasSetting object t (Object other u ∷ [])
alone object other t u apart among = by_test (same_key (Object object t) (Object other u)) refl among
  where
    by_test : (b : Bool) → same_key (Object object t) (Object other u) ≡ b → (b || false) ≡ true
        → is_among (setting_of object) (Object other u ∷ []) ≡ true
    by_test true is h = absurd (apart (same_place object other t u is))
    by_test false is h = absurd (true≢false (sym h))

-- SETTING and a timer
pair : (object other : ObjectNo) (t u : Attr) → (attribute_place t ≡ 11 → ⊥)
    → HasSetting object t (setting_of other ∷ Object other u ∷ [])
pair object other t u apart among =
    by_tests (same_key (Object object t) (setting_of other)) (same_key (Object object t) (Object other u))
    refl refl among
  where
    own : object ≡ other
        → is_among (setting_of object) (setting_of other ∷ Object other u ∷ []) ≡ true
    own is =
        ap (λ b. b || (same_key (setting_of object) (Object other u) || false))
        (subst (λ one. same_key (setting_of object) (setting_of one) ≡ true) is
        (same_itself (setting_of object)))

    by_tests : (a b : Bool) → same_key (Object object t) (setting_of other) ≡ a
        → same_key (Object object t) (Object other u) ≡ b → (a || (b || false)) ≡ true
        → is_among (setting_of object) (setting_of other ∷ Object other u ∷ []) ≡ true
    by_tests true b is at h = absurd (apart (same_place object other t attr.Setting is))
    by_tests false true is at h = own (same_object object other t u at)
    by_tests false false is at h = absurd (true≢false (sym h))

-- a key of a condition
module _ (object : ObjectNo) (open_one : Bool) where
  low_alone : (other : ObjectNo) (u : Attr) → attribute_place u < 13
      → HasSetting object (timer_of open_one) (Object other u ∷ [])
  low_alone other u low =
      alone object other (timer_of open_one) u (low_place open_one (attribute_place u) low)

  high_alone : (other : ObjectNo) (u : Attr) → 14 < attribute_place u
      → HasSetting object (timer_of open_one) (Object other u ∷ [])
  high_alone other u high =
      alone object other (timer_of open_one) u (high_place open_one (attribute_place u) high)

  own_keys : (key : Key) → HasSetting object (timer_of open_one) (grid_keys_of key)
  own_keys (Object other attr.Flow) = low_alone other attr.Flow (omega arith)
  own_keys (Object other attr.FullFlow) = low_alone other attr.FullFlow (omega arith)
  own_keys (Object other attr.Depth) = low_alone other attr.Depth (omega arith)
  own_keys (Object other attr.MaxDepth) = low_alone other attr.MaxDepth (omega arith)
  own_keys (Object other attr.FullDepth) = low_alone other attr.FullDepth (omega arith)
  own_keys (Object other attr.Head) = low_alone other attr.Head (omega arith)
  own_keys (Object other attr.Volume) = low_alone other attr.Volume (omega arith)
  own_keys (Object other attr.Inflow) = low_alone other attr.Inflow (omega arith)
  own_keys (Object other attr.Velocity) = low_alone other attr.Velocity (omega arith)
  own_keys (Object other attr.Length) = low_alone other attr.Length (omega arith)
  own_keys (Object other attr.Slope) = low_alone other attr.Slope (omega arith)
  own_keys (Object other attr.Setting) = low_alone other attr.Setting (omega arith)
  own_keys (Object other attr.Status) = low_alone other attr.Setting (omega arith)
  own_keys (Object other attr.TimeOpen) =
      pair object other (timer_of open_one) attr.TimeOpen (low_place open_one 11 (omega arith))
  own_keys (Object other attr.TimeClosed) =
      pair object other (timer_of open_one) attr.TimeClosed (low_place open_one 11 (omega arith))
  own_keys (Object other attr.Intensity) = high_alone other attr.Intensity (omega arith)
  own_keys (Object other (attr.HourDepth hours)) =
      high_alone other (attr.HourDepth hours) (omega arith)
  own_keys (Clock attribute) = λ among. absurd (true≢false (sym among))

  own_limit : (question : Question) → HasSetting object (timer_of open_one) (limit_keys question)
  own_limit (Conflict first second link) = λ among. absurd (true≢false (sym among))
  own_limit (Dead number) = λ among. absurd (true≢false (sym among))
  own_limit (Limit link lo hi) =
      low_alone (record { space = Links; index = link }) attr.Setting (omega arith)

  pub setting_there : (x : Rules) (question : Question)
      → HasSetting object (timer_of open_one) (grid_keys x question)
  unfolding grid_keys
  setting_there x question among =
      let asked = keys_read x.names (asked_rules x question) in
      let all = flat_map grid_keys_of asked ++ limit_keys question in
      among_ordered (setting_of object) all
      ∙ joined object (timer_of open_one) (flat_map grid_keys_of asked) (limit_keys question)
      (flat object (timer_of open_one) own_keys asked) (own_limit question)
      (sym (among_ordered (Object object (timer_of open_one)) all) ∙ among)

-- ---- the order of a link's SETTING and timers
places_between : (p i q j t : ℕ) → slice_cmp nat_cmp (p ∷ i ∷ 11 ∷ []) (q ∷ j ∷ 11 ∷ []) ≡ Less
    → slice_cmp nat_cmp (q ∷ j ∷ 11 ∷ []) (p ∷ i ∷ t ∷ []) ≡ Less → ⊥
places_between p i q j t first second =
    by_orders (nat_cmp p q) (nat_cmp i j) first
    (sym (ap₂ (λ a b. ordering_then a (ordering_then b (ordering_then (nat_cmp 11 t) Equal)))
    (nat_cmp_total.antisymm q p) (nat_cmp_total.antisymm j i)) ∙ second)
  where
    by_orders : (a b : Ordering)
        → ordering_then a (ordering_then b Equal) ≡ Less
        → ordering_then (ordering_reverse a) (ordering_then (ordering_reverse b)
        (ordering_then (nat_cmp 11 t) Equal)) ≡ Less → ⊥
    by_orders Less b e f = not_less Greater f refl
    by_orders Equal Less e f = not_less Greater f refl
    by_orders Equal Equal e f = not_less Equal e refl
    by_orders Equal Greater e f = not_less Greater e refl
    by_orders Greater b e f = not_less Greater e refl

places_after : (p i t : ℕ) → nat_cmp t 11 ≡ Greater
    → slice_cmp nat_cmp (p ∷ i ∷ t ∷ []) (p ∷ i ∷ 11 ∷ []) ≡ Less → ⊥
places_after p i t after first =
    by_orders (nat_cmp p p) (nat_cmp i i) (nat_cmp_total.antisymm p p)
    (nat_cmp_total.antisymm i i)
    (sym (ap (λ c. ordering_then (nat_cmp p p) (ordering_then (nat_cmp i i)
    (ordering_then c Equal))) after) ∙ first)
  where
    by_orders : (a b : Ordering) → a ≡ ordering_reverse a → b ≡ ordering_reverse b
        → ordering_then a (ordering_then b (ordering_then Greater Equal)) ≡ Less → ⊥
    by_orders Less b e f h = not_less Greater (sym e) refl
    by_orders Equal Less e f h = not_less Greater (sym f) refl
    by_orders Equal Equal e f h = not_less Greater h refl
    by_orders Equal Greater e f h = not_less Greater h refl
    by_orders Greater b e f h = not_less Greater h refl

timer_place : (open_one : Bool) → nat_cmp (attribute_place (timer_of open_one)) 11 ≡ Greater
timer_place true = refl
timer_place false = refl

-- no SETTING stands between that of a link and a timer of it
pub none_between : (object other : ObjectNo) (open_one : Bool)
    → IsBefore (setting_of object) (setting_of other)
    → IsBefore (setting_of other) (Object object (timer_of open_one)) → ⊥
none_between object other open_one first second =
    places_between (space_place object.space) object.index (space_place other.space) other.index
    (attribute_place (timer_of open_one)) first second

-- a timer does not stand before the SETTING of its link
pub timer_not_before : (object : ObjectNo) (open_one : Bool)
    → IsBefore (Object object (timer_of open_one)) (setting_of object) → ⊥
timer_not_before object open_one first =
    places_after (space_place object.space) object.index (attribute_place (timer_of open_one))
    (timer_place open_one) first

pub timer_not_setting : (object other : ObjectNo) (open_one : Bool)
    → same_key (setting_of other) (Object object (timer_of open_one)) ≡ true → ⊥
timer_not_setting object other open_one is =
    low_place open_one 11 (omega arith)
    (sym (same_place other object attr.Setting (timer_of open_one) is))

pub not_itself : (key : Key) → IsBefore key key → ⊥
not_itself key is = true≢false (sym (same_itself key) ∙ not_same key key Less is refl)
