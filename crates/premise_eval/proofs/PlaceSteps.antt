-- Places of keys.
use Rattle.std.proofs.Common.{◌≡◌, ℕ, true, Option, Some, None, List, get_or, refl, sym, ap, ◌∙◌, ◌==◌, position, option_and_then, arith}
use Rattle.std.proofs.lemmas.Bool.Decides.{nat_tests}
use Rattle.std.proofs.lemmas.List.Quantifiers.{position-Some}
use Rattle.std.proofs.lemmas.Option.{slice_get-get_or}
use Rattle.rule_types.proofs.PublicLaws.{equal_keys-key}
use Rattle.std.specs.Prelude.{IsTrue, IfSome, slice_get, bytes_eq}
use Rattle.rule_types.specs.declared.key.Attr.{Attr}
use Rattle.rule_types.specs.declared.key.ClockAttr.{ClockAttr}
use Rattle.rule_types.specs.declared.key.Key.{Key}
use Rattle.rule_types.specs.declared.key.Key.TheVariants as key
use Rattle.rule_types.specs.declared.object.ObjectNo.{ObjectNo}
use Rattle.rule_types.specs.declared.rules.Rules.{Rules}
use Rattle.rule_types.specs.Keys.{is_input, is_link_state}
use Rattle.rule_types.specs.KeyOrder.{key_place}
use Rattle.rule_types.specs.WellFormed.{InOrder}
use Rattle.rule_meaning.specs.State.{link_value, link_state, input_value, value}
use Rattle.rule_meaning.proofs.PublicLaws.{links_by_place-state, keys_by_place-input, keys_by_place-of_input}
use Rattle.rule_meaning.proofs.PublicLaws.{keys_by_place-of_link, look_ups-absent}
use Rattle.premise_eval.specs.declared.place.Place.TheVariants.{Input, Link, Clock, Nowhere}
use Rattle.premise_eval.specs.Places.{place_value, IsPlaceOf}

-- what is found one by one
pub found_link : (links : List ℕ) (link : ℕ) (found : Option ℕ)
    → found ≡ position (λ other. link == other) links
    → IfSome found (λ at. slice_get links at ≡ Some link)
found_link links link None is = tt
found_link links link (Some at) is =
    let facts = position-Some (λ other. link == other) links at 0 (sym is) in
    let same : get_or links at 0 ≡ link = let test : (link == get_or links at 0) ≡ true = facts.1 in grind (arith, nat_tests) in
    slice_get-get_or links at 0 facts.0 ∙ ap Some same

pub found_key : (keys : List Key) (given : Key) (found : Option ℕ)
    → found ≡ position (λ other. bytes_eq (key_place given) (key_place other)) keys
    → IfSome found (λ at. slice_get keys at ≡ Some given)
found_key keys given None is = tt
found_key keys given (Some at) is =
    let facts = position-Some (λ other. bytes_eq (key_place given) (key_place other)) keys at given (sym is) in
    slice_get-get_or keys at given facts.0 ∙ ap Some (sym ((equal_keys-key given (get_or keys at given)).0 facts.1))

pub link_is : (x : Rules) (object : ObjectNo) (attribute : Attr) (at : ℕ) → InOrder x
    → IsTrue (is_link_state attribute) → slice_get x.tracked at ≡ Some object.index
    → IsPlaceOf x (key.Object object attribute) (Link at attribute)
unfolding place_value
link_is x object attribute at in_order reads found = record {
  has = λ s sizes.
      ap (option_and_then (link_value attribute))
      (sym (links_by_place-state x s at object.index in_order sizes.links found))
      ∙ sym (keys_by_place-of_link x s object attribute reads);
}

pub link_absent : (x : Rules) (object : ObjectNo) (attribute : Attr)
    → IsTrue (is_link_state attribute) → position (λ other. object.index == other) x.tracked ≡ None
    → IsPlaceOf x (key.Object object attribute) Nowhere
unfolding place_value link_state
link_absent x object attribute reads absent = record {
  has = λ s sizes.
      ap (option_and_then (link_value attribute))
      (sym (look_ups-absent (λ other. object.index == other) x.tracked s.links absent))
      ∙ sym (keys_by_place-of_link x s object attribute reads);
}

pub input_is : (x : Rules) (given : Key) (at : ℕ) → InOrder x → IsTrue (is_input given)
    → slice_get x.input_keys at ≡ Some given → IsPlaceOf x given (Input at)
unfolding place_value
input_is x given at in_order reads found = record {
  has = λ s sizes.
      sym (keys_by_place-of_input x s given reads
      ∙ keys_by_place-input x s at given in_order sizes.inputs found);
}

pub input_absent : (x : Rules) (given : Key) → IsTrue (is_input given)
    → position (λ other. bytes_eq (key_place given) (key_place other)) x.input_keys ≡ None
    → IsPlaceOf x given Nowhere
unfolding place_value input_value
input_absent x given reads absent = record {
  has = λ s sizes.
      sym (keys_by_place-of_input x s given reads
      ∙ ap (option_and_then (λ one. one))
      (look_ups-absent (λ other. bytes_eq (key_place given) (key_place other)) x.input_keys s.inputs absent));
}

pub clock_is : (x : Rules) (attribute : ClockAttr)
    → IsPlaceOf x (key.Clock attribute) (Clock attribute)
unfolding place_value value
clock_is x attribute = record { has = λ s sizes. refl }
