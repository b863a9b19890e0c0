-- The states and the rates of links and which are pumps, by their places.
use Rattle.std.proofs.Common.{◌≡◌, ℕ, ◌<◌, Bool, false, Some, None, List, length, get_or, position, ◌==◌, sym, ap, ◌∙◌, arith}
use Rattle.std.proofs.lemmas.Option.{slice_get_within, slice_get-get_or}
use Rattle.std.specs.Prelude.{slice_get}
use Rattle.exact_fraction.specs.Number.{Rational, zero}
use Rattle.rule_types.specs.declared.rules.Rules.{Rules}
use Rattle.rule_types.specs.declared.state.LinkState.{LinkState}
use Rattle.rule_types.specs.declared.state.State.{State}
use Rattle.rule_types.specs.Fitting.{FitsRules}
use Rattle.rule_types.specs.WellFormed.{WellFormed}
use Rattle.rule_meaning.specs.State.{link_state}
use Rattle.rule_meaning.specs.Worth.{rate_of, is_pump, rate_or_zero, true_or_false}
use Rattle.rule_meaning.proofs.PublicLaws.{links_by_place-state, links_by_place-rate, links_by_place-pump, look_ups-absent}

pub state_is : (x : Rules) (s : State) (link at : ℕ) (links : List LinkState) (d : LinkState)
    → WellFormed x → FitsRules x s → slice_get x.tracked at ≡ Some link → links ≡ s.links
    → Some (get_or links at d) ≡ link_state x s link
state_is x s link at links d formed fits found same =
    let within : at < length s.links = omega (arith, slice_get_within x.tracked at link found, fits.links) in
    ap (λ l. Some (get_or l at d)) same
    ∙ sym (links_by_place-state x s at link formed.orders fits.links found ∙ slice_get-get_or s.links at d within)

pub no_state : (x : Rules) (s : State) (link : ℕ)
    → position (λ other. link == other) x.tracked ≡ None → None ≡ link_state x s link
unfolding link_state
no_state x s link absent =
    sym (look_ups-absent (λ other. link == other) x.tracked s.links absent)

pub rate_is : (x : Rules) (link at : ℕ) (rates : List Rational) (d : Rational)
    → WellFormed x → slice_get x.tracked at ≡ Some link → rates ≡ x.rates
    → get_or rates at d ≡ rate_of x link
rate_is x link at rates d formed found same =
    let within : at < length x.rates = omega (arith, slice_get_within x.tracked at link found, formed.rates) in
    ap (λ l. get_or l at d) same
    ∙ sym (links_by_place-rate x at link (get_or x.rates at d) formed.orders formed.rates found (slice_get-get_or x.rates at d within))

pub pump_is : (x : Rules) (link at : ℕ) (pumps : List Bool) (d : Bool)
    → WellFormed x → slice_get x.controlled at ≡ Some link → pumps ≡ x.pumps
    → get_or pumps at d ≡ is_pump x link
pump_is x link at pumps d formed found same =
    let within : at < length x.pumps = omega (arith, slice_get_within x.controlled at link found, formed.pumps) in
    ap (λ l. get_or l at d) same
    ∙ sym (links_by_place-pump x at link (get_or x.pumps at d) formed.orders formed.pumps found (slice_get-get_or x.pumps at d within))

pub no_rate : (x : Rules) (link : ℕ) → position (λ other. link == other) x.tracked ≡ None
    → zero ≡ rate_of x link
unfolding rate_of
no_rate x link absent =
    sym (ap rate_or_zero (look_ups-absent (λ other. link == other) x.tracked x.rates absent))

pub no_pump : (x : Rules) (link : ℕ) → position (λ other. link == other) x.controlled ≡ None
    → false ≡ is_pump x link
unfolding is_pump
no_pump x link absent =
    sym (ap true_or_false (look_ups-absent (λ other. link == other) x.controlled x.pumps absent))
