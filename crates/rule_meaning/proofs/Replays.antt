-- The states that a replay makes fit the rules.
use Rattle.std.proofs.Common.{◌≡◌, ℕ, zero as nothing, suc, ◌+◌, ◌<◌, ◌==◌, Bool, true, false}
use Rattle.std.proofs.Common.{Option, Some, None, Result, Ok, Err, List, [], ◌∷◌, length, inl, inr}
use Rattle.std.proofs.Common.{refl, sym, ap, subst, ◌∙◌, arith, cond, ℤ, pos, negsuc, ◌-ℤ◌, ◌≤ℤ◌}
use Rattle.std.proofs.Common.{◌<ℤ◌}
use Rattle.std.specs.Prelude.{IfOk, IfSome, IsTrue}
use Rattle.std.specs.List.{All, AllByRecursion, AllZip, slice_index}
use Rattle.std.specs.List.Sorted.{IsStrictlyIncreasing}
use Rattle.std.proofs.lemmas.Bool.Decides.{nat_tests}
use Rattle.std.proofs.lemmas.Int.{ints}
use Rattle.std.proofs.lemmas.Slice.Zip.{AllZip-long}
use Rattle.exact_fraction.specs.Number.{Rational, den, whole, zero, one}
use Rattle.exact_fraction.specs.Order.{◌≤ℚ◌}
use Rattle.exact_fraction.specs.Moments.{first_second, last_second}
use Rattle.exact_fraction.proofs.PublicLaws.{lowest_terms-value}
use Rattle.rule_types.specs.declared.action.Order.{Order}
use Rattle.rule_types.specs.declared.row.Row.{Row}
use Rattle.rule_types.specs.declared.rules.Rules.{Rules}
use Rattle.rule_types.specs.declared.state.LinkState.{LinkState}
use Rattle.rule_types.specs.declared.state.State.{State}
use Rattle.rule_types.specs.declared.stop.Stop.{Stop}
use Rattle.rule_types.specs.Tables.{TableSet}
use Rattle.rule_types.specs.Fitting.{IsStep, LinkFits, FitsRules}
use Rattle.rule_types.specs.WellFormed.{IsRoutingStep, has_rate, WellFormed}
use Rattle.rule_types.proofs.PublicLaws.{opened-orders, opened-times}
use Rattle.rule_meaning.specs.Clock.{hours_of}
use Rattle.rule_meaning.specs.State.{beside}
use Rattle.rule_meaning.specs.Worth.{rate_or_zero, rate_of}
use Rattle.rule_meaning.specs.Movement.{moved}
use Rattle.rule_meaning.specs.Reading.{Choice, OrderFits, ActsOnLinks}
use Rattle.rule_meaning.specs.History.{is_due_after, last_due, gap_hours, reading_by, new_target}
use Rattle.rule_meaning.specs.History.{Standing}
use Rattle.rule_meaning.specs.History.{all_moved, stayed, standings_after, standings_by}
use Rattle.rule_meaning.specs.Replay.{first_standings, standings_now_by, is_switch, switches_after}
use Rattle.rule_meaning.specs.Replay.{unswitched}
use Rattle.rule_meaning.specs.Replay.{last_switches_by, start_of, step_since, timer_at, links_at}
use Rattle.rule_meaning.specs.Replay.{state_after_by}
use Rattle.rule_meaning.specs.Replay.{replayed_by, RowFits, IsWithinOne, RowsFit}
use Rattle.rule_meaning.proofs.Moves.{moved_least, moved_most, moved_at_once}
use Rattle.rule_meaning.proofs.OrderValues.{each, all, some_either, IsOrdered, reading_fits}

pub as_many : (choice : Choice) (x : Rules) (tables : TableSet) (rows : List Row)
    → length (replayed_by choice x tables rows) ≡ length rows
as_many choice x tables [] = refl
as_many choice x tables (row ∷ older) = ap suc (as_many choice x tables older)

each_map : {X : Type 0} (P Q : X → Type 0) (xs : List X) → ((x : X) → P x → Q x)
    → AllByRecursion P xs → AllByRecursion Q xs
each_map P Q [] f h = tt
each_map P Q (x ∷ xs) f h = (f x h.0, each_map P Q xs f h.1)

-- ---- moments
record IsBefore (moment : ℤ) (s : State) : Type 0 where
  early : first_second ≤ℤ s.moment
  below : s.moment <ℤ moment
  started : s.start ≤ℤ moment

later_yet : (m n : ℤ) (s : State) → m <ℤ n → IsBefore m s → IsBefore n s
later_yet m n s h b = record {
  early = b.early;
  below = omega (arith, ints, h, b.below);
  started = omega (arith, ints, h, b.started);
}

start_by : (o : Option ℤ) (states : List State) (moment : ℤ)
    → ((start : ℤ) → o ≡ Some start → start ≤ℤ moment) → AllByRecursion (IsBefore moment) states
    → start_of o states moment ≤ℤ moment
start_by (Some start) states moment h g = h start refl
start_by None [] moment h g = omega (arith, ints)
start_by None (s ∷ older) moment h g = g.0.started

all_before : (choice : Choice) (x : Rules) (tables : TableSet) (row : Row) (older : List Row)
    → RowFits x older row → RowsFit x older
    → AllByRecursion (IsBefore row.moment) (replayed_by choice x tables older)
all_before choice x tables row [] fits rest = tt
all_before choice x tables row (last ∷ older) fits rest =
    let there = all_before choice x tables last older rest.0 rest.1 in
    let below = fits.rising last refl in
    let started =
    start_by x.start (replayed_by choice x tables older) last.moment rest.0.started there in (
      record {
        early =
            rest.0.moment.early;
        below = below;
        started = omega (arith, ints, below, started);
      },
      each_map (IsBefore last.moment) (IsBefore row.moment) (replayed_by choice x tables older)
          (λ s b. later_yet last.moment row.moment s below b) there,
    )

-- ---- the step
last_due_before : (step : Rational) (states : List State) (moment : ℤ)
    → AllByRecursion (IsBefore moment) states
    → IfSome (last_due step states) (λ last. (first_second ≤ℤ last) × (last <ℤ moment))
last_due_before step [] moment h = tt
last_due_before step (s ∷ older) moment h =
    some_either (λ last. (first_second ≤ℤ last) × (last <ℤ moment))
    (is_due_after step (last_due step older) s.moment) (Some s.moment) (last_due step older)
    (h.0.early, h.0.below) (last_due_before step older moment h.1)

step_fits : (routing_step : Rational) (o : Option ℤ) (moment : ℤ) → IsRoutingStep routing_step
    → moment ≤ℤ last_second → IfSome o (λ last. (first_second ≤ℤ last) × (last <ℤ moment))
    → IsStep (step_since routing_step o moment)
unfolding IsStep whole den
step_fits routing_step None moment routing late h = inl routing
step_fits routing_step (Some last) moment routing late h = inr (record {
  seconds = refl;
  least = record { le = omega (arith, ints, h.1) };
  most = record { le = omega (arith, ints, h.0, late) };
})

-- ---- timers
abbrev SwitchedBy : ℤ → Option ℤ → Type 0
SwitchedBy moment None = Unit {0}
SwitchedBy moment (Some switch) = switch ≤ℤ moment

none_switched : (moment : ℤ) (links : List ℕ)
    → AllByRecursion (SwitchedBy moment) (unswitched links)
unfolding unswitched
none_switched moment [] = tt
none_switched moment (link ∷ links) = (tt, none_switched moment links)

switched_either : (moment : ℤ) (b : Bool) (u v : Option ℤ) → SwitchedBy moment u
    → SwitchedBy moment v → SwitchedBy moment (cond b u v)
switched_either moment true u v h g = h
switched_either moment false u v h g = g

after_switched : (last moment : ℤ) (links : List LinkState) (new : List Standing)
    (switches : List (Option ℤ)) → last ≤ℤ moment → AllByRecursion (SwitchedBy moment) switches
    → AllByRecursion (SwitchedBy moment) (switches_after last links new switches)
unfolding switches_after
after_switched last moment [] new switches h g = tt
after_switched last moment (old ∷ links) [] switches h g = tt
after_switched last moment (old ∷ links) (at ∷ new) [] h g = tt
after_switched last moment (old ∷ links) (at ∷ new) (switch ∷ switches) h g = (
  switched_either moment (is_switch old.setting at.setting)
      (Some last) switch h g.0,
  after_switched last moment links new switches h g.1,
)

all_switched : (choice : Choice) (x : Rules) (tables : TableSet) (states : List State) (moment : ℤ)
    → AllByRecursion (IsBefore moment) states
    → AllByRecursion (SwitchedBy moment) (last_switches_by choice x tables states)
all_switched choice x tables [] moment h = none_switched moment x.tracked
all_switched choice x tables (s ∷ older) moment h =
    after_switched s.moment moment s.links (standings_by choice x tables older s)
    (last_switches_by choice x tables older) (omega (arith, ints, h.0.below))
    (all_switched choice x tables older moment h.1)

switches_long : (last : ℤ) (links : List LinkState) (new : List Standing)
    (switches : List (Option ℤ)) (n : ℕ) → length links ≡ n → length new ≡ n → length switches ≡ n
    → length (switches_after last links new switches) ≡ n
unfolding switches_after
switches_long last [] new switches n e f g = e
switches_long last (old ∷ links) [] switches n e f g = f
switches_long last (old ∷ links) (at ∷ new) [] n e f g = g
switches_long last (old ∷ links) (at ∷ new) (switch ∷ switches) nothing e f g =
    absurd (omega (arith, e))
switches_long last (old ∷ links) (at ∷ new) (switch ∷ switches) (suc n) e f g =
    let more =
    switches_long last links new switches n (omega (arith, e)) (omega (arith, f))
    (omega (arith, g)) in omega (arith, more)

unswitched_long : (links : List ℕ) → length (unswitched links) ≡ length links
unfolding unswitched
unswitched_long [] = refl
unswitched_long (link ∷ links) = ap suc (unswitched_long links)

hours_least : (seconds : ℤ) → pos 0 ≤ℤ seconds → zero ≤ℚ hours_of seconds
unfolding hours_of whole den
hours_least (pos n) h =
    let value = lowest_terms-value (pos n) 3600 (omega arith) in
    record { le = omega (arith, ints, value) }
hours_least (negsuc n) h = absurd (omega (arith, ints, h))

timer_least : (start moment : ℤ) (o : Option ℤ) → start ≤ℤ moment → SwitchedBy moment o
    → zero ≤ℚ timer_at start o moment
timer_least start moment None h g = hours_least (moment -ℤ start) (omega (arith, ints, h))
timer_least start moment (Some switch) h g = hours_least (moment -ℤ switch) (omega (arith, ints, g))

-- ---- where links stand
-- a setting y and a target t that a link of a rate can have
record Held (rate y t : Rational) : Type 0 where
  setting_least : zero ≤ℚ y
  target_least : zero ≤ℚ t
  setting_most : IsTrue (has_rate rate) → y ≤ℚ one
  target_most : IsTrue (has_rate rate) → t ≤ℚ one
  at_target : has_rate rate ≡ false → y ≡ t

abbrev LinkHeld : Rational → LinkState → Type 0
LinkHeld rate link = Held rate link.setting link.target

abbrev StandingHeld : Rational → Standing → Type 0
StandingHeld rate at = Held rate at.setting at.target

moved_held : (rate gap y old t : Rational) → Held rate y old → IsOrdered rate t
    → Held rate (moved rate gap y t) t
moved_held rate gap y old t h g = record {
  setting_least = moved_least rate gap y t h.setting_least g.0;
  target_least = g.0;
  setting_most = λ rated. moved_most rate gap y t (h.setting_most rated) (g.1 rated);
  target_most = g.1;
  at_target = moved_at_once rate gap y t;
}

-- the new target of a link
ordered_either : (rate : Rational) (b : Bool) (u v : Rational) → (b ≡ true → IsOrdered rate u)
    → IsOrdered rate v → IsOrdered rate (cond b u v)
ordered_either rate true u v h g = h refl
ordered_either rate false u v h g = g

target_ordered : (x : Rules) (orders : List Order) (link : ℕ) (old : Rational)
    → AllByRecursion (OrderFits x) orders → IsOrdered (rate_of x link) old
    → IsOrdered (rate_of x link) (new_target orders link old)
unfolding new_target
target_ordered x [] link old h g = g
target_ordered x (first ∷ more) link old h g =
    ordered_either (rate_of x link) (first.link == link) first.value (new_target more link old)
    (λ is.
    (let same : first.link ≡ link =
    grind (arith, nat_tests) in
    subst (λ l. IsOrdered (rate_of x l) first.value) same (h.0.least, h.0.most)))
    (target_ordered x more link old h.1 g)

all_held : (x : Rules) (gap : Rational) (orders : List Order) (links : List ℕ)
    (rates : List Rational) (states : List LinkState) → AllByRecursion (OrderFits x) orders
    → AllZip (λ link rate. rate_of x link ≡ rate) links rates → AllZip LinkHeld rates states
    → AllZip StandingHeld rates (all_moved gap orders links rates states)
unfolding all_moved
all_held x gap orders [] [] [] fits own h = tt
all_held x gap orders [] [] (old ∷ states) fits own h = absurd h
all_held x gap orders [] (rate ∷ rates) states fits own h = absurd own
all_held x gap orders (link ∷ links) [] states fits own h = absurd own
all_held x gap orders (link ∷ links) (rate ∷ rates) [] fits own h = absurd h
all_held x gap orders (link ∷ links) (rate ∷ rates) (old ∷ states) fits own h =
    let before : IsOrdered (rate_of x link) old.target =
    subst (λ r. IsOrdered r old.target) (sym own.0) (h.0.target_least, h.0.target_most) in
    let target =
    subst (λ r. IsOrdered r (new_target orders link old.target)) own.0
    (target_ordered x orders link old.target fits before) in (
      moved_held rate gap old.setting old.target
          (new_target orders link old.target) h.0 target,
      all_held x gap orders links rates states fits own.1 h.1,
    )

stayed_held : (rates : List Rational) (states : List LinkState) → AllZip LinkHeld rates states
    → AllZip StandingHeld rates (stayed states)
stayed_held [] [] h = tt
stayed_held [] (old ∷ states) h = absurd h
stayed_held (rate ∷ rates) [] h = absurd h
stayed_held (rate ∷ rates) (old ∷ states) h = (h.0, stayed_held rates states h.1)

after_held : (x : Rules) (gap : Rational) (s : State) (r : Result (List Order) Stop)
    → AllZip (λ link rate. rate_of x link ≡ rate) x.tracked x.rates
    → AllZip LinkHeld x.rates s.links → IfOk r (AllByRecursion (OrderFits x))
    → AllZip StandingHeld x.rates (standings_after x gap s r)
after_held x gap s (Ok orders) own h fits =
    all_held x gap orders x.tracked x.rates s.links fits own h
after_held x gap s (Err stop) own h fits = stayed_held x.rates s.links h

first_held : (rates initial : List Rational) → AllByRecursion (λ setting. zero ≤ℚ setting) initial
    → AllZip (λ rate setting. IsTrue (has_rate rate) → setting ≤ℚ one) rates initial
    → AllZip StandingHeld rates (first_standings initial)
unfolding first_standings
first_held [] [] least most = tt
first_held [] (setting ∷ initial) least most = absurd most
first_held (rate ∷ rates) [] least most = absurd most
first_held (rate ∷ rates) (setting ∷ initial) least most = (
  record {
    setting_least = least.0;
    target_least = least.0;
    setting_most = most.0;
    target_most = most.0;
    at_target = λ none. refl;
  },
  first_held rates initial least.1 most.1,
)

-- ---- the rate of each link
pub rising_later : (link : ℕ) (links : List ℕ) → IsStrictlyIncreasing (link ∷ links)
    → IsStrictlyIncreasing links
rising_later link links h = λ k below. (let next : suc k + 1 ≡ suc (k + 1) = omega arith in
    subst (λ m. slice_index (link ∷ links) (suc k) < slice_index (link ∷ links) m) next
    (h (suc k) (omega (arith, below))))

pub all_above : (link : ℕ) (links : List ℕ) → IsStrictlyIncreasing (link ∷ links)
    → AllByRecursion (λ other. link < other) links
all_above link [] h = tt
all_above link (next ∷ links) h =
    let first : link < next = h 0 (omega arith) in (
      first,
      each_map (λ other. next < other) (λ other. link < other) links
          (λ other above. omega (arith, first, above))
          (all_above next links (rising_later link (next ∷ links) h)),
    )

zip_map : {A B : Type 0} (P : A → Type 0) (Q R : A → B → Type 0) (xs : List A) (ys : List B)
    → ((x : A) (y : B) → P x → Q x y → R x y) → AllByRecursion P xs → AllZip Q xs ys
    → AllZip R xs ys
zip_map P Q R [] [] f h g = tt
zip_map P Q R [] (y ∷ ys) f h g = absurd g
zip_map P Q R (x ∷ xs) [] f h g = absurd g
zip_map P Q R (x ∷ xs) (y ∷ ys) f h g = (f x y h.0 g.0, zip_map P Q R xs ys f h.1 g.1)

beside_first : (link : ℕ) (rate : Rational) (links : List ℕ) (rates : List Rational)
    → beside (λ other. link == other) (link ∷ links) (rate ∷ rates) ≡ Some rate
unfolding beside
beside_first link rate links rates =
    let same : (link == link) ≡ true = grind (arith, nat_tests) in rw same refl

beside_later : (link first : ℕ) (rate found : Rational) (links : List ℕ) (rates : List Rational)
    → first < link → beside (λ other. link == other) links rates ≡ Some found
    → beside (λ other. link == other) (first ∷ links) (rate ∷ rates) ≡ Some found
unfolding beside
beside_later link first rate found links rates above h =
    let apart : (link == first) ≡ false = grind (arith, nat_tests) in rw apart h

all_beside : (links : List ℕ) (rates : List Rational) → IsStrictlyIncreasing links
    → length rates ≡ length links → AllZip
    (λ link rate. beside (λ other. link == other) links rates ≡ Some rate) links rates
all_beside [] [] h e = tt
all_beside [] (rate ∷ rates) h e = absurd (omega (arith, e))
all_beside (link ∷ links) [] h e = absurd (omega (arith, e))
all_beside (link ∷ links) (rate ∷ rates) h e = (
  beside_first link rate links rates,
  zip_map (λ other. link < other) _ _ links rates
      (λ other found above is. beside_later other link rate found links rates above is)
      (all_above link links h)
      (all_beside links rates (rising_later link links h) (omega (arith, e))),
)

each_unit : {X : Type 0} (xs : List X) → AllByRecursion (λ x. Unit {0}) xs
each_unit [] = tt
each_unit (x ∷ xs) = (tt, each_unit xs)

own_rates : (x : Rules) → WellFormed x → AllZip
    (λ link rate. rate_of x link ≡ rate) x.tracked x.rates
unfolding rate_of
own_rates x rules =
    zip_map (λ link. Unit {0})
    (λ link rate. beside (λ other. link == other) x.tracked x.rates ≡ Some rate)
    (λ link rate. rate_of x link ≡ rate) x.tracked x.rates
    (λ link rate some is. ap rate_or_zero is) (each_unit x.tracked)
    (all_beside x.tracked x.rates (opened-orders x rules.orders).tracked rules.rates)

-- ---- the states
abbrev LinksHeld : Rules → State → Type 0
LinksHeld x s = AllZip LinkHeld x.rates s.links

links_held : (start moment : ℤ) (rates : List Rational) (new : List Standing)
    (switches : List (Option ℤ)) → length switches ≡ length rates → AllZip StandingHeld rates new
    → AllZip LinkHeld rates (links_at start moment new switches)
unfolding links_at
links_held start moment [] [] switches e h = tt
links_held start moment [] (at ∷ new) switches e h = absurd h
links_held start moment (rate ∷ rates) [] switches e h = absurd h
links_held start moment (rate ∷ rates) (at ∷ new) [] e h = absurd (omega (arith, e))
links_held start moment (rate ∷ rates) (at ∷ new) (switch ∷ switches) e h =
    (h.0, links_held start moment rates new switches (omega (arith, e)) h.1)

timers_least : (start moment : ℤ) (new : List Standing) (switches : List (Option ℤ))
    → start ≤ℤ moment → AllByRecursion (SwitchedBy moment) switches
    → AllByRecursion (λ link. zero ≤ℚ link.timer) (links_at start moment new switches)
unfolding links_at
timers_least start moment [] switches h g = tt
timers_least start moment (at ∷ new) [] h g = tt
timers_least start moment (at ∷ new) (switch ∷ switches) h g =
    (timer_least start moment switch h g.0, timers_least start moment new switches h g.1)

links_fit : (rates : List Rational) (links : List LinkState) → AllZip LinkHeld rates links
    → AllByRecursion (λ link. zero ≤ℚ link.timer) links → AllByRecursion LinkFits links
links_fit [] [] h g = tt
links_fit [] (link ∷ links) h g = absurd h
links_fit (rate ∷ rates) [] h g = absurd h
links_fit (rate ∷ rates) (link ∷ links) h g = (
  record {
    setting =
        h.0.setting_least;
    target = h.0.target_least;
    timer = g.0;
  },
  links_fit rates links h.1 g.1,
)

at_targets : (rates : List Rational) (links : List LinkState) → AllZip LinkHeld rates links
    → AllZip (λ rate link. has_rate rate ≡ false → link.target ≡ link.setting) rates links
at_targets [] [] h = tt
at_targets [] (link ∷ links) h = absurd h
at_targets (rate ∷ rates) [] h = absurd h
at_targets (rate ∷ rates) (link ∷ links) h =
    (λ none. sym (h.0.at_target none), at_targets rates links h.1)

within_one : (rates : List Rational) (links : List LinkState) → AllZip LinkHeld rates links
    → AllZip IsWithinOne rates links
within_one [] [] h = tt
within_one [] (link ∷ links) h = absurd h
within_one (rate ∷ rates) [] h = absurd h
within_one (rate ∷ rates) (link ∷ links) h =
    (record { setting = h.0.setting_most; target = h.0.target_most }, within_one rates links h.1)

-- what holds after some states
record Sound (choice : Choice) (x : Rules) (tables : TableSet) (states : List State) : Type 0 where
  fit : AllByRecursion (FitsRules x) states
  held : AllByRecursion (LinksHeld x) states
  stand : AllZip StandingHeld x.rates (standings_now_by choice x tables states)
  switches : length (last_switches_by choice x tables states) ≡ length x.rates

first_sound : (choice : Choice) (x : Rules) (tables : TableSet) → WellFormed x
    → Sound choice x tables []
first_sound choice x tables rules =
    let times = opened-times x rules.bounds in
    record {
      fit = tt;
      held = tt;
      stand =
          first_held x.rates x.initial
          (each (λ setting. zero ≤ℚ setting) x.initial times.initial) times.rated;
      switches = unswitched_long x.tracked ∙ sym rules.rates;
    }

new_held : (choice : Choice) (x : Rules) (tables : TableSet) (states : List State) (row : Row)
    → Sound choice x tables states → LinksHeld x (state_after_by choice x tables states row)
new_held choice x tables states row h =
    links_held (start_of x.start states row.moment) row.moment x.rates
    (standings_now_by choice x tables states)
    (last_switches_by choice x tables states) h.switches h.stand

new_fits : (choice : Choice) (x : Rules) (tables : TableSet) (states : List State)
    (older : List Row) (row : Row) → WellFormed x → RowFits x older row
    → AllByRecursion (IsBefore row.moment) states → Sound choice x tables states
    → FitsRules x (state_after_by choice x tables states row)
new_fits choice x tables states older row rules fits before h =
    let s = state_after_by choice x tables states row in
    let links = new_held choice x tables states row h in
    let started = start_by x.start states row.moment fits.started before in
    let timers =
    timers_least (start_of x.start states row.moment) row.moment
    (standings_now_by choice x tables states) (last_switches_by choice x tables states) started
    (all_switched choice x tables states row.moment before) in
    record {
      inputs = fits.inputs;
      links = AllZip-long LinkHeld x.rates s.links links ∙ rules.rates;
      link_values = all LinkFits s.links (links_fit x.rates s.links links timers);
      at_target = at_targets x.rates s.links links;
      step =
          step_fits x.routing_step (last_due x.rule_step states) row.moment
          (opened-times x rules.bounds).routing_step fits.moment.late
          (last_due_before x.rule_step states row.moment before);
    }

next_sound : (choice : Choice) (x : Rules) (tables : TableSet) (states : List State) (s : State)
    → WellFormed x → ActsOnLinks x choice → FitsRules x s → LinksHeld x s
    → Sound choice x tables states → Sound choice x tables (s ∷ states)
next_sound choice x tables states s rules on fits held h =
    let values = each LinkFits s.links fits.link_values in
    let stand =
    after_held x (gap_hours x.routing_step states s) s (reading_by choice x tables states s)
    (own_rates x rules) held (reading_fits choice x tables states s rules.rules on values) in
    record {
      fit = (fits, h.fit);
      held = (held, h.held);
      stand = stand;
      switches =
          switches_long s.moment s.links (standings_by choice x tables states s)
          (last_switches_by choice x tables states) (length x.rates)
          (AllZip-long LinkHeld x.rates s.links held)
          (AllZip-long StandingHeld x.rates
          (standings_by choice x tables states s) stand) h.switches;
    }

sound : (choice : Choice) (x : Rules) (tables : TableSet) (rows : List Row) → WellFormed x
    → ActsOnLinks x choice → RowsFit x rows
    → Sound choice x tables (replayed_by choice x tables rows)
sound choice x tables [] rules on fits = first_sound choice x tables rules
sound choice x tables (row ∷ older) rules on fits =
    let states = replayed_by choice x tables older in
    let before = all_before choice x tables row older fits.0 fits.1 in
    let h = sound choice x tables older rules on fits.1 in
    next_sound choice x tables states (state_after_by choice x tables states row) rules on
    (new_fits choice x tables states older row rules fits.0 before h)
    (new_held choice x tables states row h) h

pub states_fit : (choice : Choice) (x : Rules) (tables : TableSet) (rows : List Row) → WellFormed x
    → ActsOnLinks x choice → RowsFit x rows → All (FitsRules x) (replayed_by choice x tables rows)
states_fit choice x tables rows rules on fits =
    all (FitsRules x) (replayed_by choice x tables rows)
    (sound choice x tables rows rules on fits).fit

pub states_within_one : (choice : Choice) (x : Rules) (tables : TableSet) (rows : List Row)
    → WellFormed x → ActsOnLinks x choice → RowsFit x rows
    → All (λ s. AllZip IsWithinOne x.rates s.links) (replayed_by choice x tables rows)
states_within_one choice x tables rows rules on fits =
    all (λ s. AllZip IsWithinOne x.rates s.links) (replayed_by choice x tables rows)
    (each_map (LinksHeld x) (λ s. AllZip IsWithinOne x.rates s.links)
    (replayed_by choice x tables rows) (λ s held. within_one x.rates s.links held)
    (sound choice x tables rows rules on fits).held)
