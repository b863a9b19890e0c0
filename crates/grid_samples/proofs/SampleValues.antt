-- The values of the keys of a grid at a sample.
use Rattle.std.proofs.Common.{◌≡◌, ℕ, zero as nothing, suc, Bool, true, false, not, inl, inr, Option, Some, None, List, [], ◌∷◌, length, cond, refl, sym, ap, subst, ◌∙◌, arith, option_and_then}
use Rattle.std.proofs.lemmas.Bool.{and_parts, true≢false}
use Rattle.std.proofs.lemmas.List.{length-map}
use Rattle.std.proofs.lemmas.Option.{none-some, same_Some, slice_get-get_or, slice_get-map}
use Rattle.std.specs.Prelude.{Contains, IfSome, IsTrue, ℤ, option_map, slice_get}
use Rattle.exact_fraction.specs.Number.{Rational, zero}
use Rattle.exact_fraction.specs.Order.{less, same}
use Rattle.exact_fraction.proofs.PublicLaws.{tests-same_by_less}
use Rattle.interval_sets.specs.declared.interval.Interval.{Interval}
use Rattle.interval_sets.specs.Intervals.{lies_in}
use Rattle.rule_types.specs.declared.key.Attr.TheVariants.{Setting, TimeOpen, TimeClosed}
use Rattle.rule_types.specs.declared.key.Key.{Key}
use Rattle.rule_types.specs.declared.object.Space.TheVariants.{Links}
use Rattle.rule_types.specs.declared.rules.Rules.{Rules}
use Rattle.rule_types.specs.declared.state.State.{State}
use Rattle.rule_types.specs.Keys.{is_input}
use Rattle.rule_types.specs.WellFormed.{WellFormed}
use Rattle.rule_meaning.specs.State.{link_state, link_value, value}
use Rattle.rule_meaning.proofs.PublicLaws.{keys_by_place-input, keys_by_place-of_input, keys_by_place-of_link, links_by_place-state}
use Rattle.verdict_meaning.specs.Boxes.{HasKey, IsEntryOf}
use Rattle.verdict_meaning.specs.Grids.{link_at, number_of_key, number_or, sample_links, sample_with}
use Rattle.verdict_meaning.specs.Questions.{setting_key}
use Rattle.grid_samples.proofs.KeyNumbers.{IsFound}
use Rattle.grid_samples.proofs.SampledKeys.{closed_key, IsSampled, open_key}

abbrev Numbers : Type 0
Numbers = List (Key × Rational)

-- ---- inputs
there : {A : Type 0} (xs : List A) (x : A) → (at : Contains xs x) → slice_get xs at.0 ≡ Some x
there xs x at = slice_get-get_or xs at.0 x at.1 ∙ ap Some at.2

input_value_is : (x : Rules) (span : Option (ℤ × ℤ)) (numbers : Numbers) (key : Key)
    → WellFormed x → IsTrue (is_input key) → Contains x.input_keys key
    → value x (sample_with x span numbers) key ≡ number_of_key key numbers
input_value_is x span numbers key formed input at =
    let s : State = sample_with x span numbers in
    let f = λ (other : Key). number_of_key other numbers in
    let is = there x.input_keys key at in
    keys_by_place-of_input x s key input
    ∙ keys_by_place-input x s at.0 key formed.orders (length-map x.input_keys f) is
    ∙ ap (option_and_then (λ given. given))
    (slice_get-map f x.input_keys at.0 ∙ ap (option_map f) is)

-- ---- links
abbrev setting_or : Numbers → ℕ → Rational → Rational
setting_or numbers link first = number_or first (number_of_key (setting_key link) numbers)

links_at : (numbers : Numbers) (tracked : List ℕ) (initial : List Rational) (k link : ℕ)
    → length initial ≡ length tracked → slice_get tracked k ≡ Some link
    → (first : Rational) × (slice_get (sample_links numbers tracked initial) k
    ≡ Some (link_at numbers link (setting_or numbers link first)))
unfolding sample_links
links_at numbers [] initial k link long is = absurd (none-some link is)
links_at numbers (one ∷ tracked) [] k link long is = absurd (omega (arith, long))
links_at numbers (one ∷ tracked) (first ∷ initial) nothing link long is = (
  first,
  ap (λ n. Some (link_at numbers n (setting_or numbers n first))) (same_Some one link is),
)
links_at numbers (one ∷ tracked) (first ∷ initial) (suc k) link long is =
    links_at numbers tracked initial k link (omega (arith, long)) is

pub links_long : (numbers : Numbers) (tracked : List ℕ) (initial : List Rational)
    → length initial ≡ length tracked
    → length (sample_links numbers tracked initial) ≡ length tracked
unfolding sample_links
links_long numbers [] initial long = refl
links_long numbers (one ∷ tracked) [] long = absurd (omega (arith, long))
links_long numbers (one ∷ tracked) (first ∷ initial) long =
    ap suc (links_long numbers tracked initial (omega (arith, long)))

link_is : (x : Rules) (span : Option (ℤ × ℤ)) (numbers : Numbers) (link : ℕ) → WellFormed x
    → Contains x.tracked link
    → (first : Rational) × (link_state x (sample_with x span numbers) link
    ≡ Some (link_at numbers link (setting_or numbers link first)))
link_is x span numbers link formed at =
    let s : State = sample_with x span numbers in
    let is = there x.tracked link at in
    let found = links_at numbers x.tracked x.initial at.0 link formed.initial is in (
      found.0,
      links_by_place-state x s at.0 link formed.orders
          (links_long numbers x.tracked x.initial formed.initial) is ∙ found.1,
    )

-- ---- entries
-- a key has a value in a piece, unless it is a timer
abbrev pub IsEntry : Rules → State → Key × Interval → Type 0
IsEntry x s entry = IsEntryOf x s entry × HasKey x s entry.0

some_inside : (x : Rules) (s : State) (key : Key) (piece : Interval) (q : Rational)
    → value x s key ≡ Some q → IsTrue (lies_in piece q) → IsEntry x s (key, piece)
some_inside x s key piece q is inside = (
  subst (λ o. IfSome o (λ p. IsTrue (lies_in piece p))) (sym is) inside,
  λ none. absurd (none-some q (sym none ∙ is)),
)

setting_entry : (x : Rules) (span : Option (ℤ × ℤ)) (numbers : Numbers) (link : ℕ)
    (piece : Interval) → WellFormed x → Contains x.tracked link
    → IsFound numbers (setting_key link, piece)
    → IsEntry x (sample_with x span numbers) (setting_key link, piece)
unfolding link_value
setting_entry x span numbers link piece formed at h =
    let s : State = sample_with x span numbers in
    let found = link_is x span numbers link formed at in
    let is : value x s (setting_key link) ≡ Some h.0 =
    keys_by_place-of_link x s (record { space = Links; index = link }) Setting refl
    ∙ ap (option_and_then (link_value Setting)) found.1
    ∙ ap (λ o. Some (number_or found.0 o)) h.1 in
    some_inside x s (setting_key link) piece h.0 is h.2

abbrev timer_by : Numbers → ℕ → Bool → Rational
timer_by numbers link above =
    number_or zero (number_of_key (cond above (open_key link) (closed_key link)) numbers)

open_by : (numbers : Numbers) (link : ℕ) (piece : Interval) → IsFound numbers (open_key link, piece)
    → (above : Bool)
    → IfSome (cond above (Some (timer_by numbers link above)) None)
    (λ p. IsTrue (lies_in piece p))
open_by numbers link piece h true =
    subst (λ o. IsTrue (lies_in piece (number_or zero o))) (sym h.1) h.2
open_by numbers link piece h false = tt

closed_by : (numbers : Numbers) (link : ℕ) (piece : Interval)
    → IsFound numbers (closed_key link, piece) → (none above : Bool)
    → (none ≡ true → above ≡ false)
    → IfSome (cond none (Some (timer_by numbers link above)) None)
    (λ p. IsTrue (lies_in piece p))
closed_by numbers link piece h true true not_both = absurd (true≢false (not_both refl))
closed_by numbers link piece h true false not_both =
    subst (λ o. IsTrue (lies_in piece (number_or zero o))) (sym h.1) h.2
closed_by numbers link piece h false above not_both = tt

not_false : (b : Bool) → not b ≡ true → b ≡ false
not_false true h = sym h
not_false false h = refl

zero_not_above : (y : Rational) → same y zero ≡ true → less zero y ≡ false
zero_not_above y h =
    not_false (less zero y)
    (and_parts (not (less y zero)) (not (less zero y)) (sym (tests-same_by_less y zero) ∙ h)).1

open_entry : (x : Rules) (span : Option (ℤ × ℤ)) (numbers : Numbers) (link : ℕ)
    (piece : Interval) → WellFormed x → Contains x.tracked link
    → IsFound numbers (open_key link, piece)
    → IsEntry x (sample_with x span numbers) (open_key link, piece)
unfolding link_value
open_entry x span numbers link piece formed at h =
    let s : State = sample_with x span numbers in
    let found = link_is x span numbers link formed at in
    let is =
    keys_by_place-of_link x s (record { space = Links; index = link }) TimeOpen refl
    ∙ ap (option_and_then (link_value TimeOpen)) found.1 in (
      subst (λ o. IfSome o (λ p. IsTrue (lies_in piece p))) (sym is)
          (open_by numbers link piece h (less zero (setting_or numbers link found.0))),
      λ none. tt,
    )

closed_entry : (x : Rules) (span : Option (ℤ × ℤ)) (numbers : Numbers) (link : ℕ)
    (piece : Interval) → WellFormed x → Contains x.tracked link
    → IsFound numbers (closed_key link, piece)
    → IsEntry x (sample_with x span numbers) (closed_key link, piece)
unfolding link_value
closed_entry x span numbers link piece formed at h =
    let s : State = sample_with x span numbers in
    let found = link_is x span numbers link formed at in
    let y = setting_or numbers link found.0 in
    let is =
    keys_by_place-of_link x s (record { space = Links; index = link }) TimeClosed refl
    ∙ ap (option_and_then (link_value TimeClosed)) found.1 in (
      subst (λ o. IfSome o (λ p. IsTrue (lies_in piece p))) (sym is)
          (closed_by numbers link piece h (same y zero) (less zero y) (zero_not_above y)),
      λ none. tt,
    )

pub entry_is : (x : Rules) (span : Option (ℤ × ℤ)) (numbers : Numbers) (key : Key)
    (piece : Interval) → WellFormed x → IsSampled x key → IsFound numbers (key, piece)
    → IsEntry x (sample_with x span numbers) (key, piece)
entry_is x span numbers key piece formed (inl h) found =
    some_inside x (sample_with x span numbers) key piece found.0
    (input_value_is x span numbers key formed h.0 h.1 ∙ found.1) found.2
entry_is x span numbers key piece formed (inr (link, at, inl is)) found =
    subst (λ one. IsEntry x (sample_with x span numbers) (one, piece)) (sym is)
    (setting_entry x span numbers link piece formed at
    (subst (λ one. IsFound numbers (one, piece)) is found))
entry_is x span numbers key piece formed (inr (link, at, inr (inl is))) found =
    subst (λ one. IsEntry x (sample_with x span numbers) (one, piece)) (sym is)
    (open_entry x span numbers link piece formed at
    (subst (λ one. IsFound numbers (one, piece)) is found))
entry_is x span numbers key piece formed (inr (link, at, inr (inr is))) found =
    subst (λ one. IsEntry x (sample_with x span numbers) (one, piece)) (sym is)
    (closed_entry x span numbers link piece formed at
    (subst (λ one. IsFound numbers (one, piece)) is found))
