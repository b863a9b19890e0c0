-- Whether a state fits rules, as a test.
use Rattle.std.specs.Prelude.{ℕ, Bool, true, false, not, ◌&&◌, ◌||◌, ◌==◌, List, [], ◌∷◌, length}
use Rattle.std.specs.Ordering.{int_eq}
use Rattle.exact_fraction.specs.Number.{Rational, zero}
use Rattle.exact_fraction.specs.Order.{less}
use Rattle.rule_types.specs.declared.rules.Rules.{Rules}
use Rattle.rule_types.specs.declared.state.LinkState.{LinkState}
use Rattle.rule_types.specs.declared.state.State.{State}
use Rattle.rule_types.specs.WellFormed.{has_rate}

-- whether two fractions are one
unfoldable pub is_one : Rational → Rational → Bool
is_one p q = int_eq p.num q.num && p.below == q.below

-- whether a number is at least 0
abbrev pub is_from_zero : Rational → Bool
is_from_zero q = not (less q zero)

-- whether a link's setting, target and timer are at least 0, and without a rate it stands at its
-- target
unfoldable pub link_fits : Rational → LinkState → Bool
link_fits rate link =
    (is_from_zero link.setting && is_from_zero link.target)
    && (is_from_zero link.timer && (has_rate rate || is_one link.target link.setting))

-- whether each link does, with one rate for each
unfoldable pub links_fit : List Rational → List LinkState → Bool
links_fit [] [] = true
links_fit [] (link ∷ links) = false
links_fit (rate ∷ rates) [] = false
links_fit (rate ∷ rates) (link ∷ links) = link_fits rate link && links_fit rates links

-- whether a state has one input for each input key and one link for each tracked link, its step is
-- the declared one, and its links fit
unfoldable pub fits_rules : Rules → State → Bool
fits_rules x s =
    (length s.inputs == length x.input_keys && length s.links == length x.tracked)
    && (is_one s.step x.routing_step && links_fit x.rates s.links)
