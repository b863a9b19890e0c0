-- Where the value of a key stands in a state.
use Rattle.std.specs.Prelude.{◌≡◌, Option, Some, None, List, slice_get, option_and_then}
use Rattle.std.specs.List.{AllZip}
use Rattle.exact_fraction.specs.Number.{Rational}
use Rattle.rule_types.specs.declared.key.Key.{Key}
use Rattle.rule_types.specs.declared.names.NameKind.{NameKind}
use Rattle.rule_types.specs.declared.names.NameKind.TheVariants.{Variable, Formula}
use Rattle.rule_types.specs.declared.rules.Rules.{Rules}
use Rattle.rule_types.specs.declared.state.State.{State}
use Rattle.rule_types.specs.Fitting.{SameSizes}
use Rattle.rule_meaning.specs.Clock.{clock_value}
use Rattle.rule_meaning.specs.State.{link_value, value}
use Rattle.premise_eval.specs.declared.place.Place.{Place}
use Rattle.premise_eval.specs.declared.place.Place.TheVariants.{Input, Link, Clock, Nowhere}

-- the value at a place of a state: that of an input, of an attribute of a tracked link or of the
-- clock
unfoldable pub place_value : State → Place → Option Rational
place_value s (Input at) = option_and_then (λ given. given) (slice_get s.inputs at)
place_value s (Link at attribute) = option_and_then (link_value attribute) (slice_get s.links at)
place_value s (Clock attribute) = Some (clock_value attribute s.start s.moment)
place_value s Nowhere = None

-- at every state of the rules' sizes a place has the value of a key
pub record IsPlaceOf (x : Rules) (key : Key) (place : Place) : Type 0 where
  pub has : (s : State) → SameSizes x s → place_value s place ≡ value x s key

-- the place of what a name stands for: that of a variable's key, and none for an expression
abbrev pub KindPlaced : Rules → NameKind → Place → Type 0
KindPlaced x (Variable key) place = IsPlaceOf x key place
KindPlaced x (Formula formula) place = place ≡ Nowhere

unfoldable pub NamesPlaced : Rules → List Place → Type 0
NamesPlaced x places = AllZip (λ named place. KindPlaced x named.stands_for place) x.names places
