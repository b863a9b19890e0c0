-- How settings move.
use Rattle.std.proofs.Common.{◌≡◌, ℕ, Bool, true, false, Result, Ok, Err, List, [], ◌∷◌, length, inl, inr, refl, sym, arith}
use Rattle.std.specs.List.{AllZip}
use Rattle.exact_fraction.specs.Number.{Rational, zero, one}
use Rattle.exact_fraction.specs.Operations.{sum_of, difference_of, round9_of}
use Rattle.exact_fraction.specs.Order.{◌≤ℚ◌, less, lesser_of, greater_of}
use Rattle.exact_fraction.proofs.PublicLaws.{order-total, order-transitive, order-below_is_at_most, order-reflexive, tests-not_less, order-lesser, order-greater}
use Rattle.rule_types.specs.declared.action.Order.{Order}
use Rattle.rule_types.specs.declared.stop.Stop.{Stop}
use Rattle.rule_types.specs.declared.rules.Rules.{Rules}
use Rattle.rule_types.specs.declared.state.LinkState.{LinkState}
use Rattle.rule_types.specs.declared.state.State.{State}
use Rattle.rule_types.specs.Tables.{TableSet}
use Rattle.rule_types.specs.WellFormed.{has_rate}
use Rattle.rule_types.specs.Fitting.{FitsRules}
use Rattle.rule_meaning.specs.Movement.{reach, towards, moved}
use Rattle.rule_meaning.specs.History.{all_moved, stayed, standings_after, standings, gap_hours, reading, new_target, IsOnTheWay}

pub lesser_least_by : (r p q : Rational) (b : Bool) → less q p ≡ b → r ≤ℚ p → r ≤ℚ q → r ≤ℚ lesser_of p q
lesser_least_by r p q true is h g = rw is g
lesser_least_by r p q false is h g = rw is h

greater_least_by : (r p q : Rational) (b : Bool) → less p q ≡ b → p ≤ℚ r → q ≤ℚ r → greater_of p q ≤ℚ r
greater_least_by r p q true is h g = rw is g
greater_least_by r p q false is h g = rw is h

up_by : (y t m : Rational) (b : Bool) → less y t ≡ b → y ≤ℚ t → (y ≤ℚ towards y t m) × (towards y t m ≤ℚ t)
unfolding towards
up_by y t m true is h =
    rw is
    (let v = greater_of y (sum_of (round9_of y) m) in
    (lesser_least_by y v t (less t v) refl ((order-greater y (sum_of (round9_of y) m)).0) h, (order-lesser v t).1))
up_by y t m false is h = rw is (rw ((tests-not_less t y).1 h) (h, order-reflexive t))

down_by : (y t m : Rational) (b : Bool) → less t y ≡ b → t ≤ℚ y → (t ≤ℚ towards y t m) × (towards y t m ≤ℚ y)
unfolding towards
down_by y t m true is h =
    rw ((tests-not_less y t).1 h) (rw is
    (let v = lesser_of y (difference_of (round9_of y) m) in
    ((order-greater v t).1, greater_least_by y v t (less v t) refl ((order-lesser y (difference_of (round9_of y) m)).0) h)))
down_by y t m false is h = rw ((tests-not_less y t).1 h) (rw is (order-reflexive t, h))

moved_up_by : (rate gap y t : Rational) (b : Bool) → has_rate rate ≡ b → y ≤ℚ t → (y ≤ℚ moved rate gap y t) × (moved rate gap y t ≤ℚ t)
unfolding moved
moved_up_by rate gap y t true is h = rw is (up_by y t (reach gap rate) (less y t) refl h)
moved_up_by rate gap y t false is h = rw is (h, order-reflexive t)

moved_down_by : (rate gap y t : Rational) (b : Bool) → has_rate rate ≡ b → t ≤ℚ y → (t ≤ℚ moved rate gap y t) × (moved rate gap y t ≤ℚ y)
unfolding moved
moved_down_by rate gap y t true is h = rw is (down_by y t (reach gap rate) (less t y) refl h)
moved_down_by rate gap y t false is h = rw is (order-reflexive t, h)

pub moved_up : (rate gap y t : Rational) → y ≤ℚ t → (y ≤ℚ moved rate gap y t) × (moved rate gap y t ≤ℚ t)
moved_up rate gap y t h = moved_up_by rate gap y t (has_rate rate) refl h

pub moved_down : (rate gap y t : Rational) → t ≤ℚ y → (t ≤ℚ moved rate gap y t) × (moved rate gap y t ≤ℚ y)
moved_down rate gap y t h = moved_down_by rate gap y t (has_rate rate) refl h

-- and within bounds
pub moved_least : (rate gap y t : Rational) → zero ≤ℚ y → zero ≤ℚ t → zero ≤ℚ moved rate gap y t
moved_least rate gap y t h g = elim (order-total y t) [
  | inl up ↦ order-transitive zero y (moved rate gap y t) h (moved_up rate gap y t up).0
  | inr down ↦ order-transitive zero t (moved rate gap y t) g (moved_down rate gap y t (order-below_is_at_most t y down)).0
]

pub moved_most : (rate gap y t : Rational) → y ≤ℚ one → t ≤ℚ one → moved rate gap y t ≤ℚ one
moved_most rate gap y t h g = elim (order-total y t) [
  | inl up ↦ order-transitive (moved rate gap y t) t one (moved_up rate gap y t up).1 g
  | inr down ↦ order-transitive (moved rate gap y t) y one (moved_down rate gap y t (order-below_is_at_most t y down)).1 h
]

pub moved_at_once : (rate gap y t : Rational) → has_rate rate ≡ false → moved rate gap y t ≡ t
unfolding moved
moved_at_once rate gap y t h = rw h refl

-- over all links of a row
at_target_moved : (gap : Rational) (orders : List Order) (links : List ℕ) (rates : List Rational) (states : List LinkState) → length states ≡ length links → AllZip (λ rate link. has_rate rate ≡ false → link.target ≡ link.setting) rates states → AllZip (λ rate at. has_rate rate ≡ false → at.setting ≡ at.target) rates (all_moved gap orders links rates states)
unfolding all_moved
at_target_moved gap orders [] [] [] e h = h
at_target_moved gap orders [] [] (old ∷ states) e h = absurd h
at_target_moved gap orders [] (rate ∷ rates) [] e h = absurd h
at_target_moved gap orders [] (rate ∷ rates) (old ∷ states) e h = absurd (omega arith)
at_target_moved gap orders (link ∷ links) [] [] e h = h
at_target_moved gap orders (link ∷ links) [] (old ∷ states) e h = absurd h
at_target_moved gap orders (link ∷ links) (rate ∷ rates) [] e h = absurd h
at_target_moved gap orders (link ∷ links) (rate ∷ rates) (old ∷ states) e h = (
  λ none. moved_at_once rate gap old.setting (new_target orders link old.target) none,
  at_target_moved gap orders links rates states (omega (arith, e)) h.1,
)

at_target_stayed : (rates : List Rational) (states : List LinkState) → AllZip (λ rate link. has_rate rate ≡ false → link.target ≡ link.setting) rates states → AllZip (λ rate at. has_rate rate ≡ false → at.setting ≡ at.target) rates (stayed states)
at_target_stayed [] [] h = h
at_target_stayed [] (old ∷ states) h = absurd h
at_target_stayed (rate ∷ rates) [] h = absurd h
at_target_stayed (rate ∷ rates) (old ∷ states) h = (λ none. sym (h.0 none), at_target_stayed rates states h.1)

at_target_by : (x : Rules) (gap : Rational) (s : State) (r : Result (List Order) Stop) → FitsRules x s → AllZip (λ rate at. has_rate rate ≡ false → at.setting ≡ at.target) x.rates (standings_after x gap s r)
at_target_by x gap s (Ok orders) fits = at_target_moved gap orders x.tracked x.rates s.links fits.links fits.at_target
at_target_by x gap s (Err stop) fits = at_target_stayed x.rates s.links fits.at_target

pub at_target : (x : Rules) (tables : TableSet) (older : List State) (s : State) → FitsRules x s → AllZip (λ rate at. has_rate rate ≡ false → at.setting ≡ at.target) x.rates (standings x tables older s)
at_target x tables older s fits = at_target_by x (gap_hours x.routing_step older s) s (reading x tables older s) fits

-- no setting passes its target
on_the_way_moved : (gap : Rational) (orders : List Order) (links : List ℕ) (rates : List Rational) (states : List LinkState) → length rates ≡ length links → length states ≡ length links → AllZip IsOnTheWay states (all_moved gap orders links rates states)
unfolding all_moved
on_the_way_moved gap orders [] rates [] e f = tt
on_the_way_moved gap orders [] rates (old ∷ states) e f = absurd (omega (arith, f))
on_the_way_moved gap orders (link ∷ links) [] states e f = absurd (omega (arith, e))
on_the_way_moved gap orders (link ∷ links) (rate ∷ rates) [] e f = absurd (omega (arith, f))
on_the_way_moved gap orders (link ∷ links) (rate ∷ rates) (old ∷ states) e f = (
  record {
    up = moved_up rate gap old.setting (new_target orders link old.target);
    down = moved_down rate gap old.setting (new_target orders link old.target);
  },
  on_the_way_moved gap orders links rates states (omega (arith, e)) (omega (arith, f)),
)

on_the_way_stayed : (states : List LinkState) → AllZip IsOnTheWay states (stayed states)
on_the_way_stayed [] = tt
on_the_way_stayed (old ∷ states) =
    (record { up = λ h. (order-reflexive old.setting, h); down = λ h. (h, order-reflexive old.setting) }, on_the_way_stayed states)

on_the_way_by : (x : Rules) (gap : Rational) (s : State) (r : Result (List Order) Stop) → length x.rates ≡ length x.tracked → length s.links ≡ length x.tracked → AllZip IsOnTheWay s.links (standings_after x gap s r)
on_the_way_by x gap s (Ok orders) e f = on_the_way_moved gap orders x.tracked x.rates s.links e f
on_the_way_by x gap s (Err stop) e f = on_the_way_stayed s.links

pub on_the_way : (x : Rules) (tables : TableSet) (older : List State) (s : State) → length x.rates ≡ length x.tracked → length s.links ≡ length x.tracked → AllZip IsOnTheWay s.links (standings x tables older s)
on_the_way x tables older s e f = on_the_way_by x (gap_hours x.routing_step older s) s (reading x tables older s) e f
