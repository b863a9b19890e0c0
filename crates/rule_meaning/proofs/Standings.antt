-- Where links stand after a row, by places.
use Rattle.std.proofs.Common.{◌≡◌, ℕ, zero as nothing, suc, ◌==◌, Some, Result, Ok}
use Rattle.std.proofs.Common.{Err}
use Rattle.std.proofs.Common.{List, [], ◌∷◌, length, refl, ap, ◌∙◌, arith}
use Rattle.std.proofs.lemmas.List.{length-map}
use Rattle.std.proofs.lemmas.Option.{none-some, same_Some, slice_get-map}
use Rattle.std.specs.Prelude.{slice_get, option_map}
use Rattle.exact_fraction.specs.Number.{Rational}
use Rattle.rule_types.specs.declared.action.Order.{Order}
use Rattle.rule_types.specs.declared.rules.Rules.{Rules}
use Rattle.rule_types.specs.declared.state.LinkState.{LinkState}
use Rattle.rule_types.specs.declared.state.State.{State}
use Rattle.rule_types.specs.declared.stop.Stop.{Stop}
use Rattle.rule_types.specs.Tables.{TableSet}
use Rattle.rule_types.specs.WellFormed.{InOrder}
use Rattle.rule_types.proofs.PublicLaws.{opened-orders}
use Rattle.rule_meaning.specs.Reading.{Choice}
use Rattle.rule_meaning.specs.History.{gap_hours, new_target, reading_by, Standing, standing_of}
use Rattle.rule_meaning.specs.History.{all_moved, stayed}
use Rattle.rule_meaning.specs.History.{standings_after, standings_by, setting_or_zero}
use Rattle.rule_meaning.specs.History.{controlled_settings}
use Rattle.rule_meaning.specs.State.{beside}
use Rattle.rule_meaning.proofs.LookUps.{link_beside}

moved_place : (gap : Rational) (orders : List Order) (links : List ℕ) (rates : List Rational)
    (states : List LinkState) (k link : ℕ) (rate : Rational) (old : LinkState)
    → slice_get links k ≡ Some link → slice_get rates k ≡ Some rate → slice_get states k ≡ Some old
    → slice_get (all_moved gap orders links rates states) k
    ≡ Some (standing_of rate gap old.setting (new_target orders link old.target))
unfolding all_moved
moved_place gap orders [] rates states k link rate old a b c = absurd (none-some link a)
moved_place gap orders (l ∷ links) [] states k link rate old a b c = absurd (none-some rate b)
moved_place gap orders (l ∷ links) (r ∷ rates) [] k link rate old a b c = absurd (none-some old c)
moved_place gap orders (l ∷ links) (r ∷ rates) (s ∷ states) nothing link rate old a b c =
    let first = same_Some l link a in
    let second = same_Some r rate b in
    let third = same_Some s old c in
    λ i. Some
    (standing_of (second i) gap (third i).setting
    (new_target orders (first i) (third i).target))
moved_place gap orders (l ∷ links) (r ∷ rates) (s ∷ states) (suc k) link rate old a b c =
    moved_place gap orders links rates states k link rate old a b c

stayed_place : (states : List LinkState) (k : ℕ) (old : LinkState) → slice_get states k ≡ Some old
    → slice_get (stayed states) k ≡ Some (record { setting = old.setting; target = old.target })
stayed_place [] k old c = absurd (none-some old c)
stayed_place (s ∷ states) nothing old c =
    let same =
    same_Some s old c in
    λ i. Some (record { setting = (same i).setting; target = (same i).target })
stayed_place (s ∷ states) (suc k) old c = stayed_place states k old c

pub standing_at : (choice : Choice) (x : Rules) (tables : TableSet) (older : List State) (s : State)
    (orders : List Order) (k link : ℕ) (rate : Rational) (old : LinkState)
    → reading_by choice x tables older s ≡ Ok orders
    → slice_get x.tracked k ≡ Some link → slice_get x.rates k ≡ Some rate
    → slice_get s.links k ≡ Some old
    → slice_get (standings_by choice x tables older s) k
    ≡ Some
    (standing_of rate (gap_hours x.routing_step older s) old.setting
    (new_target orders link old.target))
standing_at choice x tables older s orders k link rate old read a b c =
    ap (λ r. slice_get (standings_after x (gap_hours x.routing_step older s) s r) k) read
    ∙ moved_place
    (gap_hours x.routing_step older s) orders x.tracked x.rates s.links k link rate old a b c

pub standing_stayed : (choice : Choice) (x : Rules) (tables : TableSet) (older : List State)
    (s : State) (stop : Stop) (k : ℕ) (old : LinkState)
    → reading_by choice x tables older s ≡ Err stop → slice_get s.links k ≡ Some old
    → slice_get (standings_by choice x tables older s) k
    ≡ Some (record { setting = old.setting; target = old.target })
standing_stayed choice x tables older s stop k old read c =
    ap (λ r. slice_get (standings_after x (gap_hours x.routing_step older s) s r) k) read
    ∙ stayed_place s.links k old c

-- as many as links
moved_long : (gap : Rational) (orders : List Order) (links : List ℕ) (rates : List Rational)
    (states : List LinkState) (n : ℕ)
    → length links ≡ n → length rates ≡ n → length states ≡ n
    → length (all_moved gap orders links rates states) ≡ n
unfolding all_moved
moved_long gap orders [] rates states n a b c = a
moved_long gap orders (l ∷ links) [] states n a b c = b
moved_long gap orders (l ∷ links) (r ∷ rates) [] n a b c = c
moved_long gap orders (l ∷ links) (r ∷ rates) (s ∷ states) nothing a b c = absurd (omega (arith, a))
moved_long gap orders (l ∷ links) (r ∷ rates) (s ∷ states) (suc n) a b c =
    let more =
    moved_long gap orders links rates states n (omega (arith, a)) (omega (arith, b))
    (omega (arith, c)) in
    ap suc more

stayed_long : (states : List LinkState) → length (stayed states) ≡ length states
stayed_long [] = refl
stayed_long (s ∷ states) = ap suc (stayed_long states)

long_by : (x : Rules) (gap : Rational) (s : State) (r : Result (List Order) Stop)
    → length x.rates ≡ length x.tracked
    → length s.links ≡ length x.tracked → length (standings_after x gap s r) ≡ length x.tracked
long_by x gap s (Ok orders) rates links =
    moved_long gap orders x.tracked x.rates s.links (length x.tracked) refl rates links
long_by x gap s (Err stop) rates links = stayed_long s.links ∙ links

pub standings_long : (choice : Choice) (x : Rules) (tables : TableSet) (older : List State)
    (s : State)
    → length x.rates ≡ length x.tracked → length s.links ≡ length x.tracked
    → length (standings_by choice x tables older s) ≡ length x.tracked
standings_long choice x tables older s rates links =
    long_by x (gap_hours x.routing_step older s) s (reading_by choice x tables older s) rates links

-- ---- the settings of the controlled links
pub settings_long : (x : Rules) (standing : List Standing)
    → length (controlled_settings x standing) ≡ length x.controlled
unfolding controlled_settings
settings_long x standing =
    length-map x.controlled
    (λ link. setting_or_zero (beside (λ other. link == other) x.tracked standing))

pub setting_at : (x : Rules) (standing : List Standing) (j k link : ℕ) (at : Standing) → InOrder x
    → length standing ≡ length x.tracked → slice_get x.controlled j ≡ Some link
    → slice_get x.tracked k ≡ Some link
    → slice_get standing k ≡ Some at → slice_get (controlled_settings x standing) j
    ≡ Some at.setting
unfolding controlled_settings
setting_at x standing j k link at order long controlled tracked there =
    let setting : ℕ → Rational =
    λ link. setting_or_zero (beside (λ other. link == other) x.tracked standing) in
    let found =
    link_beside x.tracked standing k link (opened-orders x order).tracked tracked long
    ∙ there in
    slice_get-map setting x.controlled j ∙ ap (option_map setting) controlled
    ∙ ap (λ o. Some (setting_or_zero o)) found
