-- A sample of a cell is told whole by its values of the grid's keys.
use Rattle.std.proofs.Common.{◌≡◌, ℕ, zero as nothing, suc, Bool, true, false, not, ◌&&◌, ◌||◌}
use Rattle.std.proofs.Common.{Option, Some, None, List, [], ◌∷◌, length, map, cond, get_or, refl}
use Rattle.std.proofs.Common.{sym, ap, ap₂, subst, ◌∙◌, arith, option_and_then}
use Rattle.std.proofs.lemmas.Bool.{and_parts, true≢false}
use Rattle.std.proofs.lemmas.Cmp.{nat_list_cmp_total}
use Rattle.std.proofs.lemmas.List.{length-map}
use Rattle.std.proofs.lemmas.List.Elements.{All-head, All-tail}
use Rattle.std.proofs.lemmas.Map.Text.{is_eq-slice_cmp}
use Rattle.std.proofs.lemmas.Option.{none-some, same_Some, slice_get-get_or, slice_get-map}
use Rattle.std.proofs.lemmas.Slice.Eq.{bytes_eq-Decides}
use Rattle.std.specs.BTreeMap.{insert_entry}
use Rattle.std.specs.List.{list_any}
use Rattle.std.specs.Ordering.{is_eq, match_ordering}
use Rattle.std.specs.Prelude.{All, IsTrue, ℤ, is_some, option_map, slice_get}
use Rattle.std.specs.declared.cmp.Ordering.{Ordering}
use Rattle.std.specs.declared.cmp.Ordering.TheVariants.{Less, Equal, Greater}
use Rattle.exact_fraction.specs.Number.{Rational, zero}
use Rattle.exact_fraction.specs.Order.{less, same, ◌≤ℚ◌}
use Rattle.exact_fraction.proofs.PublicLaws.{tests-not_less, tests-same_by_less}
use Rattle.rule_types.specs.declared.key.Attr.TheVariants.{Setting, TimeOpen, TimeClosed}
use Rattle.rule_types.specs.declared.key.Key.{Key}
use Rattle.rule_types.specs.declared.key.Key.TheVariants.{Object}
use Rattle.rule_types.specs.declared.object.Space.TheVariants.{Links}
use Rattle.rule_types.specs.declared.rules.Rules.{Rules}
use Rattle.rule_types.specs.declared.state.LinkState.{LinkState}
use Rattle.rule_types.specs.declared.state.State.{State}
use Rattle.rule_types.specs.KeyOrder.{key_cmp, key_place}
use Rattle.rule_types.specs.Keys.{is_input}
use Rattle.rule_types.specs.WellFormed.{WellFormed}
use Rattle.rule_types.proofs.PublicLaws.{equal_keys-key}
use Rattle.rule_meaning.specs.State.{link_state, link_value, value}
use Rattle.rule_meaning.proofs.PublicLaws.{keys_by_place-input, keys_by_place-of_input}
use Rattle.rule_meaning.proofs.PublicLaws.{keys_by_place-of_link, links_by_place-state}
use Rattle.verdict_meaning.specs.Grids.{link_at, number_of_key, number_or, sample_links}
use Rattle.verdict_meaning.specs.Grids.{sample_moment, sample_with, timer_key}
use Rattle.verdict_meaning.specs.Premises.{start_of}
use Rattle.verdict_meaning.specs.Questions.{setting_key}
use Rattle.verdict_meaning.specs.Reaches.{same_key}
use Rattle.report_text.specs.Readable.{span_if, values_with, with_value}

abbrev pub Numbers : Type 0
Numbers = List (Key × Rational)

abbrev pub is_among : Key → List Key → Bool
is_among key keys = list_any (same_key key) keys

-- ---- keys
pub same_keys : (key other : Key) → same_key key other ≡ true → key ≡ other
same_keys key other is = (equal_keys-key key other).0 is

pub same_itself : (key : Key) → same_key key key ≡ true
same_itself key = (bytes_eq-Decides (key_place key) (key_place key)).1 refl

pub not_same : (key other : Key) (o : Ordering) → key_cmp key other ≡ o → is_eq o ≡ false
    → same_key key other ≡ false
not_same key other o is apart =
    sym (is_eq-slice_cmp (key_place key) (key_place other)) ∙ ap is_eq is ∙ apart

pub is_same : (key other : Key) → key_cmp key other ≡ Equal → same_key key other ≡ true
is_same key other is = sym (is_eq-slice_cmp (key_place key) (key_place other)) ∙ ap is_eq is

-- ---- a number that is put among others
abbrev pub first_of : Option Rational → Option Rational → Option Rational
first_of (Some q) other = Some q
first_of None other = other

head_is : (key : Key) (entry : Key × Rational) (more : Numbers)
    → number_of_key key (entry ∷ more)
    ≡ cond (same_key key entry.0) (Some entry.1) (number_of_key key more)
unfolding number_of_key
head_is key entry more = refl

placed_equal : (key put : Key) (q : Rational) (entry : Key × Rational) (more : Numbers)
    → put ≡ entry.0
    → cond (same_key key entry.0) (Some q) (number_of_key key more)
    ≡ cond (same_key key put) (Some q)
    (cond (same_key key entry.0) (Some entry.1) (number_of_key key more))
placed_equal key put q entry more is =
    by_test (same_key key entry.0)
    ∙ ap (λ one. cond (same_key key one) (Some q)
    (cond (same_key key entry.0) (Some entry.1) (number_of_key key more))) (sym is)
  where
    by_test : (b : Bool) → cond b (Some q) (number_of_key key more)
        ≡ cond b (Some q) (cond b (Some entry.1) (number_of_key key more))
    by_test true = refl
    by_test false = refl

placed_later : (key put : Key) (q : Rational) (entry : Key × Rational) (rest : Option Rational)
    → same_key put entry.0 ≡ false
    → cond (same_key key entry.0) (Some entry.1) (cond (same_key key put) (Some q) rest)
    ≡ cond (same_key key put) (Some q) (cond (same_key key entry.0) (Some entry.1) rest)
placed_later key put q entry rest apart =
    by_tests (same_key key entry.0) (same_key key put) refl refl
  where
    by_tests : (a b : Bool) → same_key key entry.0 ≡ a → same_key key put ≡ b
        → cond a (Some entry.1) (cond b (Some q) rest)
        ≡ cond b (Some q) (cond a (Some entry.1) rest)
    by_tests true true first second =
        absurd (true≢false (sym (subst (λ one. same_key one entry.0 ≡ true)
        (same_keys key put second) first) ∙ apart))
    by_tests true false first second = refl
    by_tests false true first second = refl
    by_tests false false first second = refl

placed : (key put : Key) (q : Rational) (values : Numbers)
    → number_of_key key (insert_entry key_cmp values put q)
    ≡ cond (same_key key put) (Some q) (number_of_key key values)
placed key put q [] = head_is key (put, q) []
placed key put q (entry ∷ more) =
    by_order (key_cmp put entry.0) refl (placed key put q more)
  where
    by_order : (o : Ordering) → key_cmp put entry.0 ≡ o
        → number_of_key key (insert_entry key_cmp more put q)
        ≡ cond (same_key key put) (Some q) (number_of_key key more)
        → number_of_key key (match_ordering o ((put, q) ∷ entry ∷ more) ((entry.0, q) ∷ more)
        (entry ∷ insert_entry key_cmp more put q))
        ≡ cond (same_key key put) (Some q) (number_of_key key (entry ∷ more))
    by_order Less is later = head_is key (put, q) (entry ∷ more)
    by_order Equal is later =
        head_is key (entry.0, q) more
        ∙ placed_equal key put q entry more (same_keys put entry.0 (is_same put entry.0 is))
        ∙ ap (cond (same_key key put) (Some q)) (sym (head_is key entry more))
    by_order Greater is later =
        head_is key entry (insert_entry key_cmp more put q)
        ∙ ap (cond (same_key key entry.0) (Some entry.1)) later
        ∙ placed_later key put q entry (number_of_key key more)
        (not_same put entry.0 Greater is refl)
        ∙ ap (cond (same_key key put) (Some q)) (sym (head_is key entry more))

-- ---- the values of keys
module _ (x : Rules) (s : State) where
  put_value : (key put : Key) (values : Numbers) (o : Option Rational)
      → number_of_key key (with_value values put o)
      ≡ cond (same_key key put) (first_of o (number_of_key key values)) (number_of_key key values)
  put_value key put values None = by_test (same_key key put)
    where
      by_test : (b : Bool) → number_of_key key values
          ≡ cond b (number_of_key key values) (number_of_key key values)
      by_test true = refl
      by_test false = refl
  put_value key put values (Some q) = placed key put q values

  twice : (o other : Option Rational) (b : Bool)
      → cond b (first_of o (first_of o other)) (first_of o other) ≡ first_of o other
  twice (Some q) other true = refl
  twice (Some q) other false = refl
  twice None other true = refl
  twice None other false = refl

  walked : (key first : Key) (o : Option Rational) (b later : Bool) → same_key key first ≡ b
      → cond later (first_of (value x s key) (cond b (first_of (value x s first) o) o))
      (cond b (first_of (value x s first) o) o)
      ≡ cond (b || later) (first_of (value x s key) o) o
  walked key first o true later is =
      subst
      (λ one. cond later (first_of (value x s key) (first_of (value x s one) o))
      (first_of (value x s one) o) ≡ first_of (value x s key) o)
      (same_keys key first is) (twice (value x s key) o later)
  walked key first o false later is = refl

  pub values_found : (key : Key) (keys : List Key) (values : Numbers)
      → number_of_key key (values_with x s keys values)
      ≡ cond (is_among key keys) (first_of (value x s key) (number_of_key key values))
      (number_of_key key values)
  values_found key [] values = refl
  values_found key (first ∷ more) values =
      values_found key more (with_value values first (value x s first))
      ∙ ap (λ o. cond (is_among key more) (first_of (value x s key) o) o)
      (put_value key first values (value x s first))
      ∙ walked key first (number_of_key key values) (same_key key first) (is_among key more) refl

  no_other : (o : Option Rational) → first_of o None ≡ o
  no_other (Some q) = refl
  no_other None = refl

  none_first : (key : Key) → number_of_key key [] ≡ None
  unfolding number_of_key
  none_first key = refl

  pub value_found : (key : Key) (keys : List Key) → is_among key keys ≡ true
      → number_of_key key (values_with x s keys []) ≡ value x s key
  value_found key keys among =
      values_found key keys []
      ∙ ap (λ b. cond b (first_of (value x s key) (number_of_key key [])) (number_of_key key [])) among
      ∙ ap (first_of (value x s key)) (none_first key) ∙ no_other (value x s key)

  pub none_found : (key : Key) (keys : List Key) → is_among key keys ≡ false
      → number_of_key key (values_with x s keys []) ≡ None
  none_found key keys among =
      values_found key keys []
      ∙ ap (λ b. cond b (first_of (value x s key) (number_of_key key [])) (number_of_key key [])) among
      ∙ none_first key

-- ---- the numbers of a cell
number_seen : (key : Key) (numbers : Numbers)
    → is_some (number_of_key key numbers) ≡ is_among key (map (λ number. number.0) numbers)
unfolding number_of_key
number_seen key [] = refl
number_seen key (entry ∷ more) = by_test (same_key key entry.0) (number_seen key more)
  where
    by_test : (b : Bool) → is_some (number_of_key key more) ≡ is_among key (map (λ number. number.0) more)
        → is_some (cond b (Some entry.1) (number_of_key key more))
        ≡ (b || is_among key (map (λ number. number.0) more))
    by_test true later = refl
    by_test false later = later

nothing_there : (o : Option Rational) → is_some o ≡ false → o ≡ None
nothing_there None is = refl
nothing_there (Some q) is = absurd (true≢false is)

-- ---- a sample
module _ (x : Rules) (span : Option (ℤ × ℤ)) (numbers : Numbers) (keys : List Key) where
  abbrev s : State
  s = sample_with x span numbers

  abbrev told : Numbers
  told = values_with x s keys []

  none_given : (key : Key) → map (λ (number : Key × Rational). number.0) numbers ≡ keys
      → is_among key keys ≡ false → number_of_key key numbers ≡ None
  none_given key own among =
      nothing_there (number_of_key key numbers)
      (number_seen key numbers ∙ ap (is_among key) own ∙ among)

  -- a number that is told is that of the cell where the value is
  same_told : (key : Key) → map (λ (number : Key × Rational). number.0) numbers ≡ keys
      → (is_among key keys ≡ true → value x s key ≡ number_of_key key numbers)
      → number_of_key key told ≡ number_of_key key numbers
  same_told key own is = by_test (is_among key keys) refl
    where
      by_test : (b : Bool) → is_among key keys ≡ b
          → number_of_key key told ≡ number_of_key key numbers
      by_test true among = value_found x s key keys among ∙ is among
      by_test false among = none_found x s key keys among ∙ sym (none_given key own among)

  -- inputs
  input_is : (k : ℕ) (key : Key) → WellFormed x → IsTrue (is_input key)
      → slice_get x.input_keys k ≡ Some key → value x s key ≡ number_of_key key numbers
  input_is k key formed input at =
      let f = λ (other : Key). number_of_key other numbers in
      keys_by_place-of_input x s key input
      ∙ keys_by_place-input x s k key formed.orders (length-map x.input_keys f) at
      ∙ ap (option_and_then (λ given. given))
      (slice_get-map f x.input_keys k ∙ ap (option_map f) at)

  inputs_by : (all : List Key)
      → ((k : ℕ) (key : Key) → slice_get all k ≡ Some key
      → number_of_key key told ≡ number_of_key key numbers)
      → map (λ key. number_of_key key told) all ≡ map (λ key. number_of_key key numbers) all
  inputs_by [] each = refl
  inputs_by (key ∷ more) each =
      ap₂ (λ o rest. o ∷ rest) (each 0 key refl)
      (inputs_by more (λ k other at. each (suc k) other at))

  inputs_same : WellFormed x → map (λ (number : Key × Rational). number.0) numbers ≡ keys
      → ((k : ℕ) (key : Key) → slice_get x.input_keys k ≡ Some key → IsTrue (is_input key))
      → map (λ key. number_of_key key told) x.input_keys ≡ s.inputs
  inputs_same formed own input =
      inputs_by x.input_keys
      (λ k key at. same_told key own (λ among. input_is k key formed (input k key at) at))

  -- links
  abbrev setting_of : Numbers → ℕ → Rational → Rational
  setting_of list link first = number_or first (number_of_key (setting_key link) list)

  links_got : (list : Numbers) (tracked : List ℕ) (initial : List Rational) (k link : ℕ)
      (first : Rational) → slice_get tracked k ≡ Some link → slice_get initial k ≡ Some first
      → slice_get (sample_links list tracked initial) k
      ≡ Some (link_at list link (setting_of list link first))
  unfolding sample_links
  links_got list [] initial k link first at is = absurd (none-some link at)
  links_got list (one ∷ tracked) [] k link first at is = absurd (none-some first is)
  links_got list (one ∷ tracked) (other ∷ initial) nothing link first at is =
      ap₂ (λ n q. Some (link_at list n (setting_of list n q))) (same_Some one link at)
      (same_Some other first is)
  links_got list (one ∷ tracked) (other ∷ initial) (suc k) link first at is =
      links_got list tracked initial k link first at is

  links_by : (tracked : List ℕ) (initial : List Rational)
      → ((k link : ℕ) (first : Rational) → slice_get tracked k ≡ Some link
      → slice_get initial k ≡ Some first
      → link_at told link (setting_of told link first)
      ≡ link_at numbers link (setting_of numbers link first))
      → sample_links told tracked initial ≡ sample_links numbers tracked initial
  unfolding sample_links
  links_by [] initial each = refl
  links_by (link ∷ tracked) [] each = refl
  links_by (link ∷ tracked) (first ∷ initial) each =
      ap₂ (λ one rest. one ∷ rest) (each 0 link first refl refl)
      (links_by tracked initial (λ k other q at is. each (suc k) other q at is))

  -- a link whose state is this one
  value_of_link : (link : ℕ) (state : LinkState) → link_state x s link ≡ Some state
      → value x s (setting_key link) ≡ Some state.setting
  unfolding link_value
  value_of_link link state is =
      keys_by_place-of_link x s (record { space = Links; index = link }) Setting refl
      ∙ ap (option_and_then (link_value Setting)) is

  timer_value : (link : ℕ) (state : LinkState) → link_state x s link ≡ Some state
      → zero ≤ℚ state.setting → (above : Bool) → less zero state.setting ≡ above
      → value x s (cond above (Object (record { space = Links; index = link }) TimeOpen)
      (Object (record { space = Links; index = link }) TimeClosed)) ≡ Some state.timer
  unfolding link_value
  timer_value link state is least true above =
      keys_by_place-of_link x s (record { space = Links; index = link }) TimeOpen refl
      ∙ ap (option_and_then (link_value TimeOpen)) is
      ∙ ap (λ b. cond b (Some state.timer) None) above
  timer_value link state is least false above =
      keys_by_place-of_link x s (record { space = Links; index = link }) TimeClosed refl
      ∙ ap (option_and_then (link_value TimeClosed)) is
      ∙ ap (λ b. cond b (Some state.timer) None) (at_zero state.setting least above)
    where
      at_zero : (q : Rational) → zero ≤ℚ q → less zero q ≡ false → same q zero ≡ true
      at_zero q h e =
          tests-same_by_less q zero
          ∙ ap₂ (λ a b. not a && not b) ((tests-not_less q zero).1 h) e

  setting_same : (link : ℕ) (first : Rational)
      → map (λ (number : Key × Rational). number.0) numbers ≡ keys
      → link_state x s link ≡ Some (link_at numbers link (setting_of numbers link first))
      → setting_of told link first ≡ setting_of numbers link first
  setting_same link first own state = by_test (is_among (setting_key link) keys) refl
    where
      by_test : (b : Bool) → is_among (setting_key link) keys ≡ b
          → setting_of told link first ≡ setting_of numbers link first
      by_test true among =
          ap (number_or first)
          (value_found x s (setting_key link) keys among
          ∙ value_of_link link (link_at numbers link (setting_of numbers link first)) state)
      by_test false among =
          ap (number_or first)
          (none_found x s (setting_key link) keys among
          ∙ sym (none_given (setting_key link) own among))

  timer_same : (link : ℕ) (y : Rational)
      → map (λ (number : Key × Rational). number.0) numbers ≡ keys
      → link_state x s link ≡ Some (link_at numbers link y) → zero ≤ℚ y
      → number_or zero (number_of_key (timer_key y link) told)
      ≡ number_or zero (number_of_key (timer_key y link) numbers)
  timer_same link y own state least = by_test (is_among (timer_key y link) keys) refl
    where
      by_test : (b : Bool) → is_among (timer_key y link) keys ≡ b
          → number_or zero (number_of_key (timer_key y link) told)
          ≡ number_or zero (number_of_key (timer_key y link) numbers)
      by_test true among =
          ap (number_or zero)
          (value_found x s (timer_key y link) keys among
          ∙ timer_value link (link_at numbers link y) state least (less zero y) refl)
      by_test false among =
          ap (number_or zero)
          (none_found x s (timer_key y link) keys among
          ∙ sym (none_given (timer_key y link) own among))

  abbrev link_with : Rational → Rational → LinkState
  link_with setting timer = record { setting = setting; target = setting; timer = timer }

  link_same : (link : ℕ) (first : Rational)
      → map (λ (number : Key × Rational). number.0) numbers ≡ keys
      → link_state x s link ≡ Some (link_at numbers link (setting_of numbers link first))
      → zero ≤ℚ setting_of numbers link first
      → link_at told link (setting_of told link first)
      ≡ link_at numbers link (setting_of numbers link first)
  link_same link first own state least =
      let y = setting_of numbers link first in
      ap (λ q. link_at told link q) (setting_same link first own state)
      ∙ ap (λ q. link_with y q) (timer_same link y own state least)

  pub links_same : WellFormed x → map (λ (number : Key × Rational). number.0) numbers ≡ keys
      → length s.links ≡ length x.tracked → All (λ link. zero ≤ℚ link.setting) s.links
      → sample_links told x.tracked x.initial ≡ s.links
  links_same formed own long least =
      links_by x.tracked x.initial
      (λ k link first at is.
      let got = links_got numbers x.tracked x.initial k link first at is in
      link_same link first own (links_by_place-state x s k link formed.orders long at ∙ got)
      (least_at s.links k (link_at numbers link (setting_of numbers link first)) least got))
    where
      least_at : (links : List LinkState) (k : ℕ) (link : LinkState)
          → All (λ one. zero ≤ℚ one.setting) links → slice_get links k ≡ Some link
          → zero ≤ℚ link.setting
      least_at [] k link all is = absurd (none-some link is)
      least_at (one ∷ links) nothing link all is =
          subst (λ other. zero ≤ℚ other.setting) (same_Some one link is)
          (All-head (λ other. zero ≤ℚ other.setting) one links all)
      least_at (one ∷ links) (suc k) link all is =
          least_at links k link (All-tail (λ other. zero ≤ℚ other.setting) one links all) is

  -- the moment
  moment_same : (has : Bool) → (has ≡ false → span ≡ None)
      → sample_moment (start_of x) (span_if has s.moment) ≡ s.moment
  moment_same true none = refl
  moment_same false none = ap (sample_moment (start_of x)) (sym (none refl))

  pub told_whole : (has : Bool) → WellFormed x
      → map (λ (number : Key × Rational). number.0) numbers ≡ keys
      → ((k : ℕ) (key : Key) → slice_get x.input_keys k ≡ Some key → IsTrue (is_input key))
      → length s.links ≡ length x.tracked → All (λ link. zero ≤ℚ link.setting) s.links
      → (has ≡ false → span ≡ None)
      → sample_with x (span_if has s.moment) told ≡ s
  told_whole has formed own input long least none =
      ap (λ m. record {
        moment = m;
        start = start_of x;
        step = x.routing_step;
        inputs = map (λ key. number_of_key key told) x.input_keys;
        links = sample_links told x.tracked x.initial;
      }) (moment_same has none)
      ∙ ap₂ (λ inputs links. record {
        moment = s.moment;
        start = start_of x;
        step = x.routing_step;
        inputs = inputs;
        links = links;
      }) (inputs_same formed own input) (links_same formed own long least)
