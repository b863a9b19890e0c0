-- The values of keys, by their places.
use Rattle.std.proofs.Common.{◌≡◌, ℕ, ◌<◌, Option, Some, None, List, length, get_or, position, sym, ap, ◌∙◌, arith, option_and_then}
use Rattle.std.proofs.lemmas.List.Quantifiers.{position-Some}
use Rattle.std.proofs.lemmas.Option.{slice_get_within, slice_get-get_or}
use Rattle.std.specs.Prelude.{IfSome, slice_get, bytes_eq}
use Rattle.exact_fraction.specs.Number.{Rational}
use Rattle.rule_types.proofs.PublicLaws.{equal_keys-key}
use Rattle.rule_types.specs.declared.key.Key.{Key}
use Rattle.rule_types.specs.declared.rules.Rules.{Rules}
use Rattle.rule_types.specs.declared.state.State.{State}
use Rattle.rule_types.specs.Fitting.{FitsRules}
use Rattle.rule_types.specs.KeyOrder.{key_place}
use Rattle.rule_types.specs.WellFormed.{WellFormed}
use Rattle.rule_meaning.specs.State.{input_value}
use Rattle.rule_meaning.proofs.PublicLaws.{keys_by_place-input, look_ups-absent}

pub found_key : (keys : List Key) (given : Key) (found : Option ℕ)
    → found ≡ position (λ other. bytes_eq (key_place given) (key_place other)) keys
    → IfSome found (λ at. slice_get keys at ≡ Some given)
found_key keys given None is = tt
found_key keys given (Some at) is =
    let facts = position-Some (λ other. bytes_eq (key_place given) (key_place other)) keys at given (sym is) in
    slice_get-get_or keys at given facts.0 ∙ ap Some (sym ((equal_keys-key given (get_or keys at given)).0 facts.1))

pub input_is : (x : Rules) (s : State) (given : Key) (at : ℕ) (inputs : List (Option Rational))
    (d : Option Rational) → WellFormed x → FitsRules x s
    → slice_get x.input_keys at ≡ Some given → inputs ≡ s.inputs
    → get_or inputs at d ≡ input_value x s given
input_is x s given at inputs d formed fits found same =
    let within : at < length s.inputs = omega (arith, slice_get_within x.input_keys at given found, fits.inputs) in
    ap (λ l. get_or l at d) same
    ∙ sym (keys_by_place-input x s at given formed.orders fits.inputs found
    ∙ ap (option_and_then (λ one. one)) (slice_get-get_or s.inputs at d within))

pub no_input : (x : Rules) (s : State) (given : Key)
    → position (λ other. bytes_eq (key_place given) (key_place other)) x.input_keys ≡ None
    → None ≡ input_value x s given
unfolding input_value
no_input x s given absent =
    sym (ap (option_and_then (λ one. one))
    (look_ups-absent (λ other. bytes_eq (key_place given) (key_place other)) x.input_keys s.inputs absent))
