-- The values of a grid's keys are told at a state exactly where a reader looks for them.
use Rattle.std.proofs.Common.{◌≡◌, ℕ, Bool, true, false, ◌||◌, ◌⊎◌, inl, inr, cond, Option, Some}
use Rattle.std.proofs.Common.{None, List, [], ◌∷◌, refl, sym, ap, subst, ◌∙◌, arith}
use Rattle.std.proofs.Common.{option_and_then}
use Rattle.std.proofs.lemmas.Bool.{true≢false}
use Rattle.std.specs.List.{AllByRecursion}
use Rattle.std.specs.Prelude.{IfSome, IsTrue}
use Rattle.exact_fraction.specs.Number.{Rational, zero}
use Rattle.exact_fraction.specs.Order.{less, same}
use Rattle.rule_types.specs.declared.key.Attr.{Attr}
use Rattle.rule_types.specs.declared.key.Attr.TheVariants as attr
use Rattle.rule_types.specs.declared.key.Key.{Key}
use Rattle.rule_types.specs.declared.key.Key.TheVariants.{Object, Clock}
use Rattle.rule_types.specs.declared.object.ObjectNo.{ObjectNo}
use Rattle.rule_types.specs.declared.rules.Rules.{Rules}
use Rattle.rule_types.specs.declared.state.LinkState.{LinkState}
use Rattle.rule_types.specs.declared.state.State.{State}
use Rattle.rule_types.specs.KeyOrder.{attribute_place}
use Rattle.rule_meaning.specs.State.{link_state, link_value, value}
use Rattle.rule_meaning.proofs.PublicLaws.{keys_by_place-of_link}
use Rattle.verdict_meaning.specs.Boxes.{HasKey, IsTimer}
use Rattle.verdict_meaning.specs.Reaches.{same_key}
use Rattle.report_lines.specs.StateLines.{is_closed, is_open, is_present, setting_after}
use Rattle.report_text.specs.Readable.{AreTold, IsTold, is_number}
use Rattle.report_round_trips.proofs.KeysInOrder.{IsBefore, Rise, before_among, none_between}
use Rattle.report_round_trips.proofs.KeysInOrder.{same_place, setting_of}
use Rattle.report_round_trips.proofs.KeysInOrder.{timer_not_before, timer_not_setting, timer_of}
use Rattle.report_round_trips.proofs.SampleWhole.{is_among, same_itself, same_keys}

-- ---- kinds of keys
-- a key other than a SETTING and a timer
record IsOther (key : Key) : Type 0 where
  present : (last : Option Rational) → is_present key last ≡ true
  after : (q : Rational) (last : Option Rational) → setting_after key q last ≡ last
  apart : (object : ObjectNo) → same_key (setting_of object) key ≡ true → ⊥
  not_timer : IsTimer key → ⊥

abbrev IsTimerOf : Key → Type 0
IsTimerOf key = (object : ObjectNo) × (open_one : Bool) × (key ≡ Object object (timer_of open_one))

abbrev Kind : Key → Type 0
Kind key = ((object : ObjectNo) × (key ≡ setting_of object)) ⊎ (IsTimerOf key ⊎ IsOther key)

plain : (other : ObjectNo) (u : Attr) → (11 ≡ attribute_place u → ⊥)
    → ((last : Option Rational) → is_present (Object other u) last ≡ true)
    → ((q : Rational) (last : Option Rational) → setting_after (Object other u) q last ≡ last)
    → (IsTimer (Object other u) → ⊥) → Kind (Object other u)
plain other u place present after not_timer = inr (inr (record {
  present = present;
  after = after;
  apart = λ object is. place (same_place object other attr.Setting u is);
  not_timer = not_timer;
}))

abbrev is_object : Key → Bool
is_object (Object object attribute) = true
is_object (Clock attribute) = false

kind_of : (key : Key) → Kind key
kind_of (Object o attr.Setting) = inl (o, refl)
kind_of (Object o attr.TimeOpen) = inr (inl (o, true, refl))
kind_of (Object o attr.TimeClosed) = inr (inl (o, false, refl))
kind_of (Object o attr.Flow) =
    plain o attr.Flow (λ e. omega (arith, e)) (λ l. refl) (λ q l. refl) (λ h. h)
kind_of (Object o attr.FullFlow) =
    plain o attr.FullFlow (λ e. omega (arith, e)) (λ l. refl) (λ q l. refl) (λ h. h)
kind_of (Object o attr.Depth) =
    plain o attr.Depth (λ e. omega (arith, e)) (λ l. refl) (λ q l. refl) (λ h. h)
kind_of (Object o attr.MaxDepth) =
    plain o attr.MaxDepth (λ e. omega (arith, e)) (λ l. refl) (λ q l. refl) (λ h. h)
kind_of (Object o attr.FullDepth) =
    plain o attr.FullDepth (λ e. omega (arith, e)) (λ l. refl) (λ q l. refl) (λ h. h)
kind_of (Object o attr.Head) =
    plain o attr.Head (λ e. omega (arith, e)) (λ l. refl) (λ q l. refl) (λ h. h)
kind_of (Object o attr.Volume) =
    plain o attr.Volume (λ e. omega (arith, e)) (λ l. refl) (λ q l. refl) (λ h. h)
kind_of (Object o attr.Inflow) =
    plain o attr.Inflow (λ e. omega (arith, e)) (λ l. refl) (λ q l. refl) (λ h. h)
kind_of (Object o attr.Velocity) =
    plain o attr.Velocity (λ e. omega (arith, e)) (λ l. refl) (λ q l. refl) (λ h. h)
kind_of (Object o attr.Length) =
    plain o attr.Length (λ e. omega (arith, e)) (λ l. refl) (λ q l. refl) (λ h. h)
kind_of (Object o attr.Slope) =
    plain o attr.Slope (λ e. omega (arith, e)) (λ l. refl) (λ q l. refl) (λ h. h)
kind_of (Object o attr.Status) =
    plain o attr.Status (λ e. omega (arith, e)) (λ l. refl) (λ q l. refl) (λ h. h)
kind_of (Object o attr.Intensity) =
    plain o attr.Intensity (λ e. omega (arith, e)) (λ l. refl) (λ q l. refl) (λ h. h)
kind_of (Object o (attr.HourDepth hours)) =
    plain o (attr.HourDepth hours) (λ e. omega (arith, e)) (λ l. refl) (λ q l. refl) (λ h. h)
kind_of (Clock attribute) = inr (inr (record {
  present = λ last. refl;
  after = λ q last. refl;
  apart = λ object is. true≢false (ap is_object (same_keys (setting_of object) (Clock attribute) is));
  not_timer = λ h. h;
}))

-- ---- the walk through the keys
module _ (x : Rules) (s : State) where
  -- a key has a number as programs hold it, unless it is a timer that is missing
  pub record KeyFits (key : Key) : Type 0 where
    pub has : HasKey x s key
    pub number : IfSome (value x s key) (λ q. IsTrue (is_number q))

  -- of a timer among keys, the SETTING is among them too, or is the last one and before them all
  abbrev pub Ready : List Key → Option Rational → Type 0
  Ready keys last =
      (object : ObjectNo) (open_one : Bool)
      → is_among (Object object (timer_of open_one)) keys ≡ true
      → (is_among (setting_of object) keys ≡ true)
      ⊎ ((last ≡ value x s (setting_of object))
      × AllByRecursion (IsBefore (setting_of object)) keys)

  also : (one key : Key) (more : List Key) → is_among one more ≡ true
      → is_among one (key ∷ more) ≡ true
  also one key more h = ap (λ b. same_key one key || b) h ∙ or_true (same_key one key)
    where
      or_true : (b : Bool) → (b || true) ≡ true
      or_true true = refl
      or_true false = refl

  passed : (object : ObjectNo) (key : Key) (more : List Key) (last : Option Rational)
      → (same_key (setting_of object) key ≡ true → ⊥)
      → (is_among (setting_of object) (key ∷ more) ≡ true)
      ⊎ ((last ≡ value x s (setting_of object))
      × AllByRecursion (IsBefore (setting_of object)) (key ∷ more))
      → (is_among (setting_of object) more ≡ true)
      ⊎ ((last ≡ value x s (setting_of object))
      × AllByRecursion (IsBefore (setting_of object)) more)
  passed object key more last apart (inr h) = inr (h.0, h.1.1)
  passed object key more last apart (inl among) =
      by_test (same_key (setting_of object) key) refl among
    where
      by_test : (b : Bool) → same_key (setting_of object) key ≡ b
          → (b || is_among (setting_of object) more) ≡ true
          → (is_among (setting_of object) more ≡ true)
          ⊎ ((last ≡ value x s (setting_of object))
          × AllByRecursion (IsBefore (setting_of object)) more)
      by_test true is h = absurd (apart is)
      by_test false is h = inl h

  -- past a key that is no SETTING
  ready_after : (key : Key) (more : List Key) (last : Option Rational)
      → ((object : ObjectNo) → same_key (setting_of object) key ≡ true → ⊥)
      → Ready (key ∷ more) last → Ready more last
  ready_after key more last apart ready object open_one among =
      passed object key more last (apart object)
      (ready object open_one (also (Object object (timer_of open_one)) key more among))

  -- past a SETTING
  ready_setting : (own : ObjectNo) (more : List Key) (last : Option Rational) (q : Rational)
      → AllByRecursion (IsBefore (setting_of own)) more → value x s (setting_of own) ≡ Some q
      → Ready (setting_of own ∷ more) last → Ready more (Some q)
  ready_setting own more last q before is ready object open_one among =
      by_ready (ready object open_one (also (Object object (timer_of open_one)) (setting_of own) more among))
    where
      by_test : (b : Bool) → same_key (setting_of object) (setting_of own) ≡ b
          → (b || is_among (setting_of object) more) ≡ true
          → (is_among (setting_of object) more ≡ true)
          ⊎ ((Some q ≡ value x s (setting_of object))
          × AllByRecursion (IsBefore (setting_of object)) more)
      by_test true same_one h =
          let one = same_keys (setting_of object) (setting_of own) same_one in
          inr (
            sym is ∙ ap (value x s) (sym one),
            subst (λ key. AllByRecursion (IsBefore key) more) (sym one) before,
          )
      by_test false same_one h = inl h

      by_ready : (is_among (setting_of object) (setting_of own ∷ more) ≡ true)
          ⊎ ((last ≡ value x s (setting_of object))
          × AllByRecursion (IsBefore (setting_of object)) (setting_of own ∷ more))
          → (is_among (setting_of object) more ≡ true)
          ⊎ ((Some q ≡ value x s (setting_of object))
          × AllByRecursion (IsBefore (setting_of object)) more)
      by_ready (inl h) = by_test (same_key (setting_of object) (setting_of own)) refl h
      by_ready (inr h) =
          absurd (none_between object own open_one h.1.0
          (before_among (setting_of own) (Object object (timer_of open_one)) more before among))

  abbrev IsToldBefore : Key → List Key → Option Rational → Type 0
  IsToldBefore key more last =
      IsTold (is_present key last) (value x s key)
      (λ q. AreTold x s more (setting_after key q last)) (AreTold x s more last)

  -- a key that each state has
  present_told : (key : Key) (more : List Key) (last : Option Rational)
      → is_present key last ≡ true → (IsTimer key → ⊥) → KeyFits key
      → ((q : Rational) → value x s key ≡ Some q → AreTold x s more (setting_after key q last))
      → IsToldBefore key more last
  present_told key more last present not_timer fits later =
      subst
      (λ b. IsTold b (value x s key) (λ q. AreTold x s more (setting_after key q last))
      (AreTold x s more last)) (sym present)
      (by_value (value x s key) refl fits.has fits.number)
    where
      by_value : (o : Option Rational) → value x s key ≡ o → (o ≡ None → IsTimer key)
          → IfSome o (λ q. IsTrue (is_number q))
          → IsTold true o (λ q. AreTold x s more (setting_after key q last)) (AreTold x s more last)
      by_value None is has number = absurd (not_timer (has refl))
      by_value (Some q) is has number = (number, later q is)

  -- a timer behind the SETTING of its link
  abbrev IsTimed : ObjectNo → Bool → Option Rational → Type 0
  IsTimed object open_one last =
      (b : Bool) × (timer : Rational)
      × (is_present (Object object (timer_of open_one)) last ≡ b)
      × (value x s (Object object (timer_of open_one)) ≡ cond b (Some timer) None)

  timed_by : (object : ObjectNo) (open_one : Bool) (last : Option Rational) (o : Option LinkState)
      → link_state x s object.index ≡ o → last ≡ option_and_then (link_value attr.Setting) o
      → IsTimed object open_one last
  unfolding link_value
  timed_by object true last None is setting = (
    false,
    zero,
    ap is_open setting,
    keys_by_place-of_link x s object attr.TimeOpen refl
        ∙ ap (option_and_then (link_value attr.TimeOpen)) is,
  )
  timed_by object false last None is setting = (
    false,
    zero,
    ap is_closed setting,
    keys_by_place-of_link x s object attr.TimeClosed refl
        ∙ ap (option_and_then (link_value attr.TimeClosed)) is,
  )
  timed_by object true last (Some link) is setting = (
    less zero link.setting,
    link.timer,
    ap is_open setting,
    keys_by_place-of_link x s object attr.TimeOpen refl
        ∙ ap (option_and_then (link_value attr.TimeOpen)) is,
  )
  timed_by object false last (Some link) is setting = (
    same link.setting zero,
    link.timer,
    ap is_closed setting,
    keys_by_place-of_link x s object attr.TimeClosed refl
        ∙ ap (option_and_then (link_value attr.TimeClosed)) is,
  )

  timed : (object : ObjectNo) (open_one : Bool) (last : Option Rational)
      → last ≡ value x s (setting_of object) → IsTimed object open_one last
  timed object open_one last is =
      timed_by object open_one last (link_state x s object.index) refl
      (is ∙ keys_by_place-of_link x s object attr.Setting refl)

  told_by : (b : Bool) (timer : Rational) (next : Rational → Type 0) (later : Type 0)
      → IfSome (cond b (Some timer) None) (λ q. IsTrue (is_number q)) → ((q : Rational) → next q)
      → later → IsTold b (cond b (Some timer) None) next later
  told_by true timer next later number h rest = (number, h timer)
  told_by false timer next later number h rest = rest

  timer_told : (object : ObjectNo) (open_one : Bool) (more : List Key) (last : Option Rational)
      → last ≡ value x s (setting_of object)
      → KeyFits (Object object (timer_of open_one)) → AreTold x s more last
      → IsToldBefore (Object object (timer_of open_one)) more last
  timer_told object open_one more last is fits later =
      let key = Object object (timer_of open_one) in
      let h = timed object open_one last is in
      let next : Rational → Type 0 = λ q. AreTold x s more (setting_after key q last) in
      subst (λ b. IsTold b (value x s key) next (AreTold x s more last)) (sym h.2)
      (subst (λ o. IsTold h.0 o next (AreTold x s more last)) (sym h.3)
      (told_by h.0 h.1 next (AreTold x s more last)
      (subst (λ o. IfSome o (λ q. IsTrue (is_number q))) h.3 fits.number)
      (kept open_one) later))
    where
      kept : (open_two : Bool) → (q : Rational)
          → AreTold x s more (setting_after (Object object (timer_of open_two)) q last)
      kept true q = later
      kept false q = later

  timer_last : (object : ObjectNo) (open_one : Bool) (more : List Key) (last : Option Rational)
      → AllByRecursion (IsBefore (Object object (timer_of open_one))) more
      → Ready (Object object (timer_of open_one) ∷ more) last
      → last ≡ value x s (setting_of object)
  timer_last object open_one more last before ready =
      let key = Object object (timer_of open_one) in
      by_ready
      (passed object key more last (timer_not_setting object object open_one)
      (ready object open_one
      (ap (λ b. b || is_among key more) (same_itself key))))
    where
      by_ready : (is_among (setting_of object) more ≡ true)
          ⊎ ((last ≡ value x s (setting_of object))
          × AllByRecursion (IsBefore (setting_of object)) more)
          → last ≡ value x s (setting_of object)
      by_ready (inl among) =
          absurd (timer_not_before object open_one
          (before_among (Object object (timer_of open_one)) (setting_of object) more before among))
      by_ready (inr h) = h.0

  abbrev Later : List Key → Type 0
  Later more = (next : Option Rational) → Ready more next → AreTold x s more next

  key_told : (key : Key) (more : List Key) (last : Option Rational)
      → AllByRecursion (IsBefore key) more → KeyFits key → Ready (key ∷ more) last → Later more
      → Kind key → IsToldBefore key more last
  key_told key more last before fits ready later (inl (own, is)) =
      subst (λ one. IsToldBefore one more last) (sym is)
      (present_told (setting_of own) more last refl (λ h. h) (subst KeyFits is fits)
      (λ q at. later (Some q)
      (ready_setting own more last q (subst (λ one. AllByRecursion (IsBefore one) more) is before) at
      (subst (λ one. Ready (one ∷ more) last) is ready))))
  key_told key more last before fits ready later (inr (inl (object, open_one, is))) =
      let own = subst (λ one. Ready (one ∷ more) last) is ready in
      subst (λ one. IsToldBefore one more last) (sym is)
      (timer_told object open_one more last
      (timer_last object open_one more last
      (subst (λ one. AllByRecursion (IsBefore one) more) is before) own)
      (subst KeyFits is fits)
      (later last (ready_after (Object object (timer_of open_one)) more last
      (λ other. timer_not_setting object other open_one) own)))
  key_told key more last before fits ready later (inr (inr other)) =
      present_told key more last (other.present last) other.not_timer fits
      (λ q at. subst (AreTold x s more) (sym (other.after q last))
      (later last (ready_after key more last other.apart ready)))

  pub all_told : (keys : List Key) (last : Option Rational) → Rise keys
      → AllByRecursion KeyFits keys → Ready keys last → AreTold x s keys last
  unfolding Rise
  all_told [] last rise fits ready = tt
  all_told (key ∷ more) last rise fits ready =
      key_told key more last rise.0 fits.0 ready
      (λ next h. all_told more next rise.1 fits.1 h) (kind_of key)
