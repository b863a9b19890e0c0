-- What one reading of the rules gives.
use Rattle.std.specs.Prelude.{◌≡◌, ℕ, Option, Some, None, Result, Ok, Err, IsTrue, IfSome, List, []}
use Rattle.std.specs.Prelude.{◌∷◌, slice_get, All}
use Rattle.exact_fraction.specs.Number.{Rational, zero, one}
use Rattle.exact_fraction.specs.Order.{◌≤ℚ◌}
use Rattle.exact_fraction.specs.declared.error.Overflow.{Overflow}
use Rattle.rule_types.specs.declared.action.Action.{Action}
use Rattle.rule_types.specs.declared.action.ActionAt.{ActionAt}
use Rattle.rule_types.specs.declared.action.Order.{Order}
use Rattle.rule_types.specs.declared.action.PidMemory.{PidMemory}
use Rattle.rule_types.specs.declared.action.What.{What}
use Rattle.rule_types.specs.declared.action.What.TheVariants.{Constant, Curve, Series, Pid}
use Rattle.rule_types.specs.declared.condition.Condition.{Condition}
use Rattle.rule_types.specs.declared.rule.Rule.{Rule}
use Rattle.rule_types.specs.declared.rules.Rules.{Rules}
use Rattle.rule_types.specs.declared.state.State.{State}
use Rattle.rule_types.specs.declared.stop.StopCause.TheVariants as cause
use Rattle.rule_types.specs.declared.stop.StopPlace.TheVariants as place
use Rattle.rule_types.specs.declared.stop.Stop.{Stop}
use Rattle.rule_types.specs.Tables.{TableSet}
use Rattle.rule_types.specs.WellFormed.{has_rate}
use Rattle.rule_meaning.specs.Formula.{names_stop}
use Rattle.rule_meaning.specs.Pid.{Stepped}
use Rattle.rule_meaning.specs.Premise.{listed}
use Rattle.rule_meaning.specs.Settled.{action_at, is_on, settled_on}
use Rattle.rule_meaning.specs.CheckedSteps.{◌>>=◌}
use Rattle.rule_meaning.specs.Worth.{rate_of, worth, rule_pid}

-- an overflow at an action's place
abbrev pub overflow_at : ActionAt → Stop
overflow_at at = record { place = place.Action at; cause = cause.Overflow }

-- the conditions of a pair's rule
abbrev pub conditions_of : Option Rule → List Condition
conditions_of None = []
conditions_of (Some rule) = rule.conditions

unfoldable pub conditions_at : List Rule → ActionAt → List Condition
conditions_at rules at = conditions_of (slice_get rules at.rule)

-- what the PID action at a place gives, and nothing where there is another action
abbrev pub pid_what : Rules → State → (ℕ → PidMemory) → List Condition → ℕ → What
    → Option (Result Stepped Overflow)
pid_what x s memory conditions link (Constant q) = None
pid_what x s memory conditions link (Curve curve) = None
pid_what x s memory conditions link (Series series) = None
pid_what x s memory conditions link (Pid set number) =
    Some (rule_pid x s memory conditions link set number)

abbrev pub pid_action : Rules → State → (ℕ → PidMemory) → List Condition → Option Action
    → Option (Result Stepped Overflow)
pid_action x s memory conditions None = None
pid_action x s memory conditions (Some action) =
    pid_what x s memory conditions action.link action.what

unfoldable pub pid_at : Rules → State → (ℕ → PidMemory) → ActionAt
    → Option (Result Stepped Overflow)
pid_at x s memory at = pid_action x s memory (conditions_at x.rules at) (action_at x.rules at)

abbrev pub overflow_or : ActionAt → Option (Result Stepped Overflow) → Option Stop → Option Stop
overflow_or at (Some (Err why)) later = Some (overflow_at at)
overflow_or at (Some (Ok stepped)) later = later
overflow_or at None later = later

-- the first PID action of some pairs that overflows
unfoldable pub pids_stop : Rules → State → (ℕ → PidMemory) → List ActionAt → Option Stop
pids_stop x s memory [] = None
pids_stop x s memory (at ∷ more) = overflow_or at (pid_at x s memory at) (pids_stop x s memory more)

-- the order that a pair gives to its link, or its overflow
abbrev pub ordered : ℕ → ActionAt → Result Rational Overflow → Result Order Stop
ordered link at (Ok q) = Ok (record { link = link; by = at; value = q })
ordered link at (Err why) = Err (overflow_at at)

abbrev pub action_worth : Rules → TableSet → State → (ℕ → PidMemory) → List Condition
    → Option Action → Result Rational Overflow
action_worth x tables s memory conditions None = Ok zero
action_worth x tables s memory conditions (Some action) = worth x tables s memory conditions action

unfoldable pub order_of : Rules → TableSet → State → (ℕ → PidMemory) → ℕ → ActionAt
    → Result Order Stop
order_of x tables s memory link at =
    ordered link at
    (action_worth x tables s memory (conditions_at x.rules at) (action_at x.rules at))

-- Which pair each link takes at a state. By the rules it is the settled one (`settling`); another
-- way to read the rules takes another.
abbrev pub Choice : Type 0
Choice = State → ℕ → Option ActionAt

-- each link takes the pair that is settled for it among the listed ones (SWMM 5.2 manual,
-- [CONTROLS], PRIORITY)
unfoldable pub settling : Rules → Choice
settling x s link = settled_on x.rules (listed x s) link

-- the orders of the pairs that links take, in the order of links; the first overflow is the stop
abbrev pub order_then : Rules → TableSet → State → (ℕ → PidMemory) → ℕ → Option ActionAt
    → Result (List Order) Stop → Result (List Order) Stop
order_then x tables s memory link None later = later
order_then x tables s memory link (Some at) later = do
  first ← order_of x tables s memory link at
  more ← later
  Ok (first ∷ more)

unfoldable pub orders_on : Choice → Rules → TableSet → State → (ℕ → PidMemory) → List ℕ
    → Result (List Order) Stop
orders_on choice x tables s memory [] = Ok []
orders_on choice x tables s memory (link ∷ links) =
    order_then x tables s memory link (choice s link) (orders_on choice x tables s memory links)

-- a stop that has come, or what comes next
abbrev pub unless_stopped : {A : Type 0} → Option Stop → Result A Stop → Result A Stop
unless_stopped None next = next
unless_stopped (Some stop) next = Err stop

-- One reading at a state, where the PID actions have these memories: the used names in the order of
-- the file, then the listed PID actions in the order of rules and of actions, then the pairs that
-- links take, in the order of links. The first overflow or zero divisor is the stop.
abbrev pub read_by : Choice → Rules → TableSet → State → (ℕ → PidMemory) → Result (List Order) Stop
read_by choice x tables s memory =
    unless_stopped (names_stop x s)
    (unless_stopped (pids_stop x s memory (listed x s))
    (orders_on choice x tables s memory x.controlled))

-- the reading in which each link takes its settled pair (SWMM 5.2 manual, [CONTROLS])
abbrev pub read : Rules → TableSet → State → (ℕ → PidMemory) → Result (List Order) Stop
read x = read_by (settling x) x

-- an order that a link can follow: its value is at least 0, and at most 1 on a link with a rate
pub record OrderFits (x : Rules) (order : Order) : Type 0 where
  pub least : zero ≤ℚ order.value
  pub most : IsTrue (has_rate (rate_of x order.link)) → order.value ≤ℚ one

-- each pair that a link takes acts on that link
pub record ActsOnLinks (x : Rules) (choice : Choice) : Type 0 where
  pub each : (s : State) (link : ℕ) → IfSome (choice s link) (λ at. IsTrue (is_on x.rules link at))

-- two choices agree at a state: on each link that rules act on they take the same pair, unless a
-- used name stops, where nothing is taken
pub record AgreeAt (x : Rules) (choice other : Choice) (s : State) : Type 0 where
  pub pairs : names_stop x s ≡ None → All (λ link. choice s link ≡ other s link) x.controlled
