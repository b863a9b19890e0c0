-- The values that readings order are at least 0, and at most 1 on a link with a rate.
use Rattle.std.proofs.Common.{◌≡◌, ℕ, zero as nothing, suc, ◌==◌, Bool, true, false, Option, Some}
use Rattle.std.proofs.Common.{None, Result, Ok, Err, List, [], ◌∷◌, refl, sym, subst, ◌∙◌, arith}
use Rattle.std.proofs.Common.{cond}
use Rattle.std.proofs.lemmas.Bool.Decides.{nat_tests}
use Rattle.std.specs.Prelude.{IfOk, IfSome, IsTrue}
use Rattle.std.specs.List.{All, AllByRecursion, slice_get}
use Rattle.std.proofs.lemmas.List.Elements.{All-nil, All-cons}
use Rattle.exact_fraction.specs.Number.{Rational, zero, one}
use Rattle.exact_fraction.specs.Order.{◌≤ℚ◌, less, lesser_of}
use Rattle.exact_fraction.specs.declared.error.Overflow.{Overflow}
use Rattle.exact_fraction.proofs.PublicLaws.{order-reflexive, order-lesser}
use Rattle.rule_types.specs.declared.action.Action.{Action}
use Rattle.rule_types.specs.declared.action.ActionAt.{ActionAt}
use Rattle.rule_types.specs.declared.action.Branch.{Branch}
use Rattle.rule_types.specs.declared.action.Branch.TheVariants.{Then, Otherwise}
use Rattle.rule_types.specs.declared.action.Order.{Order}
use Rattle.rule_types.specs.declared.action.PidMemory.{PidMemory}
use Rattle.rule_types.specs.declared.action.PidSet.{PidSet}
use Rattle.rule_types.specs.declared.action.What.{What}
use Rattle.rule_types.specs.declared.action.What.TheVariants.{Constant, Curve, Series, Pid}
use Rattle.rule_types.specs.declared.condition.Condition.{Condition}
use Rattle.rule_types.specs.declared.rule.Rule.{Rule}
use Rattle.rule_types.specs.declared.rules.Rules.{Rules}
use Rattle.rule_types.specs.declared.state.LinkState.{LinkState}
use Rattle.rule_types.specs.declared.state.State.{State}
use Rattle.rule_types.specs.declared.stop.Stop.{Stop}
use Rattle.rule_types.specs.Fitting.{LinkFits, FitsRules}
use Rattle.rule_types.specs.Reading.{branch_actions}
use Rattle.rule_types.specs.Tables.{TableSet, CurveTable, SeriesTable, curve_at, series_at}
use Rattle.rule_types.specs.declared.names.NameDef.{NameDef}
use Rattle.rule_types.specs.WellFormed.{has_rate, WhatFits, RuleFits, WellFormed}
use Rattle.rule_meaning.specs.State.{beside, link_state}
use Rattle.rule_meaning.specs.StraightLines.{series_x}
use Rattle.rule_meaning.specs.Pid.{IsPidValue, Stepped, pid_step}
use Rattle.rule_meaning.specs.Settled.{branch_action, action_at, acts_on, is_on, settled_on}
use Rattle.rule_meaning.specs.Worth.{target_or_zero, old_target, rate_of, is_pump, minutes_of}
use Rattle.rule_meaning.specs.Worth.{controller_of, set_point_of, curve_worth, series_worth}
use Rattle.rule_meaning.specs.Worth.{pid_worth, rule_pid, value_stepped, what_worth, capped, worth}
use Rattle.rule_meaning.specs.Reading.{Choice, settling, OrderFits, ActsOnLinks, conditions_at}
use Rattle.rule_meaning.specs.Reading.{pids_stop, ordered, action_worth, order_of, order_then}
use Rattle.rule_meaning.specs.Reading.{orders_on, unless_stopped, read_by}
use Rattle.rule_meaning.specs.Formula.{names_stop}
use Rattle.rule_meaning.specs.Premise.{listed}
use Rattle.rule_meaning.specs.History.{is_due, memory_by, reading_by}
use Rattle.rule_meaning.proofs.Choices.{all_first, all_later}
use Rattle.rule_meaning.proofs.Kept.{either, chain}
use Rattle.rule_meaning.proofs.Moves.{lesser_least_by}
use Rattle.rule_meaning.proofs.Settling.{given_is_settled}
use Rattle.rule_meaning.proofs.Values.{zero_below_one, line_at_least_zero, pid_in_bounds}

-- lists of which all are so, by places and by recursion
pub each : {X : Type 0} (P : X → Type 0) (xs : List X) → All P xs → AllByRecursion P xs
each P [] h = tt
each P (x ∷ xs) h = (all_first P x xs h, each P xs (all_later P x xs h))

pub all : {X : Type 0} (P : X → Type 0) (xs : List X) → AllByRecursion P xs → All P xs
all P [] h = All-nil P
all P (x ∷ xs) h = All-cons P x xs h.0 (all P xs h.1)

pub got : {X : Type 0} (P : X → Type 0) (xs : List X) (k : ℕ) → All P xs → IfSome (slice_get xs k) P
got P [] k h = tt
got P (x ∷ xs) nothing h = all_first P x xs h
got P (x ∷ xs) (suc k) h = got P xs k (all_later P x xs h)

pub some_either : {X : Type 0} (P : X → Type 0) (b : Bool) (u v : Option X) → IfSome u P
    → IfSome v P → IfSome (cond b u v) P
some_either P true u v h g = h
some_either P false u v h g = g

pub found_beside : {A B : Type 0} (P : B → Type 0) (passes : A → Bool) (things : List A)
    (values : List B) → AllByRecursion P values → IfSome (beside passes things values) P
unfolding beside
found_beside P passes [] values h = tt
found_beside P passes (thing ∷ things) [] h = tt
found_beside P passes (thing ∷ things) (value ∷ values) h =
    some_either P (passes thing) (Some value) (beside passes things values) h.0
    (found_beside P passes things values h.1)

abbrev AtLeastZero : Rational → Type 0
AtLeastZero q = zero ≤ℚ q

-- the old target
target_least : (o : Option LinkState) → IfSome o LinkFits → zero ≤ℚ target_or_zero o
target_least None h = order-reflexive zero
target_least (Some link) h = h.target

old_least : (x : Rules) (s : State) (link : ℕ) → AllByRecursion LinkFits s.links
    → zero ≤ℚ old_target x s link
unfolding old_target link_state
old_least x s link h =
    target_least (link_state x s link)
    (found_beside LinkFits (λ other. link == other) x.tracked s.links h)

-- what each kind of action is worth
curve_least : (curve : Option CurveTable) (controller : Option Rational) (old : Rational)
    → zero ≤ℚ old → IfOk (curve_worth curve controller old) AtLeastZero
curve_least None controller old h = h
curve_least (Some curve) None old h = h
curve_least (Some curve) (Some x) old h = line_at_least_zero curve.points x

series_least : (series : Option SeriesTable) (s : State) (old : Rational) → zero ≤ℚ old
    → IfOk (series_worth series s old) AtLeastZero
series_least None s old h = h
series_least (Some series) s old h =
    line_at_least_zero series.points (series_x series s.start s.moment)

value_least : (pump : Bool) (r : Result Stepped Overflow)
    → IfOk r (λ stepped. IsPidValue pump stepped.value) → IfOk (value_stepped r) AtLeastZero
value_least pump (Ok stepped) h = h.least
value_least pump (Err why) h = tt

pid_least : (set : PidSet) (x set_point : Option Rational) (old seconds : Rational) (pump : Bool)
    (before : PidMemory) → zero ≤ℚ old → IfOk
    (value_stepped (pid_worth set x set_point old seconds pump before)) AtLeastZero
pid_least set (Some x) (Some set_point) old seconds pump before h =
    value_least pump (pid_step set set_point x old (minutes_of seconds) pump before)
    (pid_in_bounds set set_point x old (minutes_of seconds) pump before)
pid_least set (Some x) None old seconds pump before h = h
pid_least set None set_point old seconds pump before h = h

what_least : (x : Rules) (tables : TableSet) (s : State) (memory : ℕ → PidMemory)
    (conditions : List Condition) (link : ℕ) (what : What) → AllByRecursion LinkFits s.links
    → WhatFits what → IfOk (what_worth x tables s memory conditions link what) AtLeastZero
unfolding what_worth rule_pid
what_least x tables s memory conditions link (Constant q) h fits = fits
what_least x tables s memory conditions link (Curve curve) h fits =
    curve_least (curve_at tables curve.index) (controller_of x s conditions) (old_target x s link)
    (old_least x s link h)
what_least x tables s memory conditions link (Series series) h fits =
    series_least (series_at tables series.index) s (old_target x s link) (old_least x s link h)
what_least x tables s memory conditions link (Pid set number) h fits =
    pid_least set (controller_of x s conditions) (set_point_of x s conditions)
    (old_target x s link) s.step (is_pump x link)
    (memory number) (old_least x s link h)

-- a value that an order can have on a link of a rate
abbrev pub IsOrdered : Rational → Rational → Type 0
IsOrdered rate q = (zero ≤ℚ q) × (IsTrue (has_rate rate) → q ≤ℚ one)

ordered_either : (rate q : Rational) (b : Bool) → has_rate rate ≡ b → zero ≤ℚ q
    → IsOrdered rate (cond b (lesser_of one q) q)
ordered_either rate q true is h =
    (lesser_least_by zero one q (less q one) refl zero_below_one h, λ rated. (order-lesser one q).0)
ordered_either rate q false is h =
    (h, λ rated. (let no : true ≡ false = sym rated ∙ is in grind arith))

capped_ordered : (rate : Rational) (r : Result Rational Overflow) → IfOk r AtLeastZero
    → IfOk (capped rate r) (IsOrdered rate)
capped_ordered rate (Ok q) h = ordered_either rate q (has_rate rate) refl h
capped_ordered rate (Err why) h = tt

worth_ordered : (x : Rules) (tables : TableSet) (s : State) (memory : ℕ → PidMemory)
    (conditions : List Condition) (action : Action) → AllByRecursion LinkFits s.links
    → WhatFits action.what → IfOk (worth x tables s memory conditions action)
    (IsOrdered (rate_of x action.link))
unfolding worth
worth_ordered x tables s memory conditions action h fits =
    capped_ordered (rate_of x action.link)
    (what_worth x tables s memory conditions action.link action.what)
    (what_least x tables s memory conditions action.link action.what h fits)

action_ordered : (x : Rules) (tables : TableSet) (s : State) (memory : ℕ → PidMemory)
    (conditions : List Condition) (link : ℕ) (o : Option Action) → AllByRecursion LinkFits s.links
    → IfSome o (λ action. WhatFits action.what) → IsTrue (acts_on link o)
    → IfOk (action_worth x tables s memory conditions o) (IsOrdered (rate_of x link))
action_ordered x tables s memory conditions link None h fits on =
    let no : false ≡ true = on in grind arith
action_ordered x tables s memory conditions link (Some action) h fits on =
    let same : action.link ≡ link = grind (arith, nat_tests) in
    subst (λ l. IfOk (worth x tables s memory conditions action) (IsOrdered (rate_of x l))) same
    (worth_ordered x tables s memory conditions action h fits)

-- the actions of well formed rules
branch_fits : (names : List NameDef) (rule : Rule) (branch : Branch) (k : ℕ) → RuleFits names rule
    → IfSome (slice_get (branch_actions rule branch) k) (λ action. WhatFits action.what)
branch_fits names rule Then k h =
    got (λ action. WhatFits action.what) rule.then_actions k h.then_values
branch_fits names rule Otherwise k h =
    got (λ action. WhatFits action.what) rule.else_actions k h.else_values

place_fits : (names : List NameDef) (at : ActionAt) (o : Option Rule) → IfSome o (RuleFits names)
    → IfSome (branch_action at o) (λ action. WhatFits action.what)
place_fits names at None h = tt
place_fits names at (Some rule) h = branch_fits names rule at.branch at.action h

action_fits : (names : List NameDef) (rules : List Rule) (at : ActionAt)
    → All (RuleFits names) rules → IfSome (action_at rules at) (λ action. WhatFits action.what)
unfolding action_at
action_fits names rules at h =
    place_fits names at (slice_get rules at.rule) (got (RuleFits names) rules at.rule h)

-- orders
order_by : (x : Rules) (link : ℕ) (at : ActionAt) (r : Result Rational Overflow)
    → IfOk r (IsOrdered (rate_of x link)) → IfOk (ordered link at r) (OrderFits x)
order_by x link at (Ok q) h = record { least = h.0; most = h.1 }
order_by x link at (Err why) h = tt

order_fits : (x : Rules) (tables : TableSet) (s : State) (memory : ℕ → PidMemory) (link : ℕ)
    (at : ActionAt) → AllByRecursion LinkFits s.links → All (RuleFits x.names) x.rules
    → IsTrue (is_on x.rules link at) → IfOk (order_of x tables s memory link at) (OrderFits x)
unfolding order_of is_on
order_fits x tables s memory link at h rules on =
    order_by x link at
    (action_worth x tables s memory (conditions_at x.rules at) (action_at x.rules at))
    (action_ordered x tables s memory (conditions_at x.rules at) link (action_at x.rules at) h
    (action_fits x.names x.rules at rules) on)

then_fits : (x : Rules) (tables : TableSet) (s : State) (memory : ℕ → PidMemory) (link : ℕ)
    (taken : Option ActionAt) (later : Result (List Order) Stop) → AllByRecursion LinkFits s.links
    → All (RuleFits x.names) x.rules → IfSome taken (λ at. IsTrue (is_on x.rules link at))
    → IfOk later (AllByRecursion (OrderFits x))
    → IfOk (order_then x tables s memory link taken later) (AllByRecursion (OrderFits x))
then_fits x tables s memory link None later h rules on more = more
then_fits x tables s memory link (Some at) later h rules on more =
    chain (OrderFits x) (AllByRecursion (OrderFits x)) (order_of x tables s memory link at) _
    (order_fits x tables s memory link at h rules on) (λ first first_fits.
    chain (AllByRecursion (OrderFits x)) (AllByRecursion (OrderFits x)) later _ more
    (λ rest rest_fit. (first_fits, rest_fit)))

orders_fit : (choice : Choice) (x : Rules) (tables : TableSet) (s : State) (memory : ℕ → PidMemory)
    (links : List ℕ) → AllByRecursion LinkFits s.links → All (RuleFits x.names) x.rules
    → ((link : ℕ) → IfSome (choice s link) (λ at. IsTrue (is_on x.rules link at)))
    → IfOk (orders_on choice x tables s memory links) (AllByRecursion (OrderFits x))
unfolding orders_on
orders_fit choice x tables s memory [] h rules on = tt
orders_fit choice x tables s memory (link ∷ links) h rules on =
    then_fits x tables s memory link (choice s link)
    (orders_on choice x tables s memory links) h rules (on link)
    (orders_fit choice x tables s memory links h rules on)

pub unless_fits : {A : Type 0} (P : A → Type 0) (stop : Option Stop) (next : Result A Stop)
    → IfOk next P → IfOk (unless_stopped stop next) P
unless_fits P None next h = h
unless_fits P (Some stop) next h = tt

settled_is_on : (rules : List Rule) (pairs : List ActionAt) (link : ℕ) (taken : Option ActionAt)
    → settled_on rules pairs link ≡ taken → IfSome taken (λ at. IsTrue (is_on rules link at))
settled_is_on rules pairs link None is = tt
settled_is_on rules pairs link (Some at) is = (given_is_settled rules pairs link at is).on_link

settling_on : (x : Rules) (s : State) (link : ℕ)
    → IfSome (settling x s link) (λ at. IsTrue (is_on x.rules link at))
unfolding settling
settling_on x s link =
    settled_is_on x.rules (listed x s) link (settled_on x.rules (listed x s) link) refl

pub settling_acts : (x : Rules) → ActsOnLinks x (settling x)
settling_acts x = record { each = settling_on x }

pub reading_fits : (choice : Choice) (x : Rules) (tables : TableSet) (older : List State)
    (s : State)
    → All (RuleFits x.names) x.rules → ActsOnLinks x choice → AllByRecursion LinkFits s.links
    → IfOk (reading_by choice x tables older s) (AllByRecursion (OrderFits x))
reading_fits choice x tables older s rules on h =
    let memory = memory_by choice x tables older in
    either (AllByRecursion (OrderFits x)) (is_due x.rule_step older s)
    (read_by choice x tables s memory) (Ok [])
    (unless_fits (AllByRecursion (OrderFits x)) (names_stop x s) _
    (unless_fits (AllByRecursion (OrderFits x)) (pids_stop x s memory (listed x s)) _
    (orders_fit choice x tables s memory x.controlled h rules (on.each s)))) tt

order_all : (x : Rules) (r : Result (List Order) Stop) → IfOk r (AllByRecursion (OrderFits x))
    → IfOk r (All (OrderFits x))
order_all x (Ok orders) h = all (OrderFits x) orders h
order_all x (Err stop) h = tt

pub all_orders_fit : (choice : Choice) (x : Rules) (tables : TableSet) (older : List State)
    (s : State)
    → WellFormed x → ActsOnLinks x choice → FitsRules x s
    → IfOk (reading_by choice x tables older s) (All (OrderFits x))
all_orders_fit choice x tables older s rules on fits =
    order_all x (reading_by choice x tables older s)
    (reading_fits choice x tables older s rules.rules on (each LinkFits s.links fits.link_values))
