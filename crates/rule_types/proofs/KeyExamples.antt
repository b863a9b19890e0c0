-- The attributes of objects and the order of keys, computed.
use Rattle.std.proofs.Common.{◌≡◌, suc, zero, ◌+◌, List, [], ◌∷◌, ◌++◌, map, true, not, refl, arith}
use Rattle.std.specs.Prelude.{length}
use Rattle.std.specs.List.{AllAdjacentBelow, filter}
use Rattle.std.specs.declared.cmp.Ordering.TheVariants.{Less}
use Rattle.rule_types.specs.declared.key.Attr.TheVariants.{Setting, Status, TimeOpen, TimeClosed}
use Rattle.rule_types.specs.declared.key.ClockAttr.TheVariants.{Time, Date, ClockTime}
use Rattle.rule_types.specs.declared.key.Key.TheVariants.{Clock}
use Rattle.rule_types.specs.declared.object.Space.TheVariants.{Nodes, Links, Gages}
use Rattle.rule_types.specs.KeyExamples.{all_attributes, node_attributes, link_attributes}
use Rattle.rule_types.specs.KeyExamples.{gage_attributes, clock_attributes}
use Rattle.rule_types.specs.KeyExamples.{keys_of, ordered_keys}
use Rattle.rule_types.specs.KeyOrder.{IsInKeyOrder, key_cmp}
use Rattle.rule_types.specs.Keys.{has_attribute, is_key, is_input, is_time}

pub nodes : filter (has_attribute Nodes) all_attributes ≡ node_attributes
nodes = refl

pub links : filter (has_attribute Links) all_attributes ≡ link_attributes
links = refl

pub gages : filter (has_attribute Gages) all_attributes ≡ gage_attributes
gages = refl

pub clock : is_key (Clock Date) ≡ true
clock = refl

-- each is before the next, by recursion
Chain : {X : Type 0} → (X → X → Type 0) → List X → Type 0
Chain R [] = Unit {0}
Chain R (x ∷ []) = Unit {0}
Chain R (x ∷ y ∷ more) = R x y × Chain R (y ∷ more)

adjacent : {X : Type 0} (R : X → X → Type 0) (xs : List X) → Chain R xs → AllAdjacentBelow R xs (length xs)
unfolding Chain
adjacent R [] h k d lt = absurd (omega (arith, lt))
adjacent R (x ∷ []) h k d lt = absurd (omega (arith, lt))
adjacent R (x ∷ y ∷ more) h zero d lt = h.0
adjacent R (x ∷ y ∷ more) h (suc k) d lt =
    let e : suc k + 1 ≡ suc (k + 1) = omega arith in rw e (adjacent R (y ∷ more) h.1 k d (omega arith))

pub order : IsInKeyOrder ordered_keys
unfolding Chain
order = adjacent (λ a b. key_cmp a b ≡ Less) ordered_keys (refl, (refl, (refl, (refl, (refl, (refl, (refl, (refl, (refl, (refl, (refl, (refl, (refl, (refl, (refl, (refl, (refl, (refl, (refl, (refl, (refl, (refl, (refl, (refl, (refl, (refl, tt))))))))))))))))))))))))))

pub not_traced : filter (λ key. not (is_input key)) ordered_keys
    ≡ keys_of Links (Setting ∷ Status ∷ TimeOpen ∷ TimeClosed ∷ []) ++ map Clock clock_attributes
not_traced = refl

pub times : filter is_time ordered_keys ≡ keys_of Links (TimeOpen ∷ TimeClosed ∷ []) ++ map Clock (Time ∷ ClockTime ∷ [])
times = refl
