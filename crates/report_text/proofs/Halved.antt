-- Values that are found by halving.
use Rattle.std.proofs.Common.{◌≡◌, ℕ, ◌+◌, ◌-◌, ◌<◌, true, Some, List, length, get_or, refl, sym, ap, subst, ◌∙◌, arith, option_and_then}
use Rattle.std.proofs.lemmas.Bool.{true≢false}
use Rattle.std.proofs.lemmas.List.Sorted.{all_adjacent_more}
use Rattle.std.proofs.lemmas.Option.{slice_get-get_or, get_or_from_slice_get}
use Rattle.std.specs.Prelude.{slice_get}
use Rattle.std.specs.List.{AllAdjacentBelow}
use Rattle.std.specs.List.Sorted.{IsStrictlyIncreasing}
use Rattle.std.specs.Ordering.{is_lt}
use Rattle.std.specs.declared.cmp.Ordering.{Ordering}
use Rattle.std.specs.declared.cmp.Ordering.TheVariants.{Less, Equal, Greater}
use Rattle.rule_meaning.specs.State.{input_value, link_state}
use Rattle.rule_meaning.proofs.PublicLaws.{keys_by_place-input, links_by_place-state}
use Rattle.rule_types.specs.KeyOrder.{IsInKeyOrder, key_cmp}
use Rattle.rule_types.specs.WellFormed.{InOrder}
use Rattle.rule_types.specs.declared.key.Key.{Key}
use Rattle.rule_types.specs.declared.rules.Rules.{Rules}
use Rattle.rule_types.specs.declared.state.State.{State}
use Rattle.report_text.specs.internal.Halving.{IsOrdered}

pub input_is : (x : Rules) (s : State) (key : Key) (at : ℕ) → IsOrdered x s → slice_get x.input_keys at ≡ Some key
    → option_and_then (λ given. given) (slice_get s.inputs at) ≡ input_value x s key
input_is x s key at ordered found = sym (keys_by_place-input x s at key ordered.order ordered.inputs found)

pub state_is : (x : Rules) (s : State) (link at : ℕ) → IsOrdered x s → slice_get x.tracked at ≡ Some link
    → slice_get s.links at ≡ link_state x s link
state_is x s link at ordered found = sym (links_by_place-state x s at link ordered.order ordered.links found)

in_order : (x : Rules) → IsInKeyOrder x.input_keys → IsStrictlyIncreasing x.tracked → IsStrictlyIncreasing x.controlled → InOrder x
unfolding InOrder
in_order x keys tracked controlled = record { input_keys = keys; tracked = tracked; controlled = controlled }

pub ordered_by : (x : Rules) (s : State) (keys : List Key) (tracked controlled : List ℕ) → keys ≡ x.input_keys
    → tracked ≡ x.tracked → controlled ≡ x.controlled → IsInKeyOrder keys → IsStrictlyIncreasing tracked
    → IsStrictlyIncreasing controlled → length s.inputs ≡ length x.input_keys → length s.links ≡ length x.tracked
    → IsOrdered x s
ordered_by x s keys tracked controlled a b c rise up down inputs links = record {
  order = in_order x (subst (λ (l : List Key). IsInKeyOrder l) a rise) (subst (λ (l : List ℕ). IsStrictlyIncreasing l) b up)
      (subst (λ (l : List ℕ). IsStrictlyIncreasing l) c down);
  inputs = inputs;
  links = links;
}

is_less : (o : Ordering) → is_lt o ≡ true → o ≡ Less
is_less Less e = refl
is_less Equal e = absurd (true≢false (sym e))
is_less Greater e = absurd (true≢false (sym e))

any_default : {A : Type 0} (xs : List A) (at : ℕ) (one other : A) → at < length xs → get_or xs at one ≡ get_or xs at other
any_default xs at one other within =
    get_or_from_slice_get xs at (get_or xs at other) one (slice_get-get_or xs at other within)

-- one more key behind keys in key order
pub one_more : (keys : List Key) (at : ℕ) (one other : Key) → 0 < at → at < length keys
    → AllAdjacentBelow (λ a b. key_cmp a b ≡ Less) keys at
    → is_lt (key_cmp (get_or keys (at - 1) one) (get_or keys at other)) ≡ true
    → AllAdjacentBelow (λ a b. key_cmp a b ≡ Less) keys (at + 1)
one_more keys at one other past within rise e =
    all_adjacent_more keys (λ a b. key_cmp a b ≡ Less) at past rise
    (λ d. ap (λ key. key_cmp key (get_or keys at d)) (any_default keys (at - 1) d one (omega arith))
    ∙ ap (key_cmp (get_or keys (at - 1) one)) (any_default keys at d other within)
    ∙ is_less (key_cmp (get_or keys (at - 1) one) (get_or keys at other)) e)
