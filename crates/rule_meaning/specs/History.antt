-- What a list of states leaves: rows that are due, PID memories, readings, targets and settings.
-- Lists of states have the newest first.
use Rattle.std.specs.Prelude.{ℕ, Bool, true, false, not, ◌==◌, if◌then◌else◌, Option, Some, None}
use Rattle.std.specs.Prelude.{Result, Ok, Err, List, [], ◌∷◌, map, ℤ, pos, ◌-ℤ◌}
use Rattle.exact_fraction.specs.Number.{Rational, whole, zero}
use Rattle.exact_fraction.specs.Operations.{quotient_of}
use Rattle.exact_fraction.specs.Order.{less, ◌≤ℚ◌}
use Rattle.exact_fraction.specs.declared.error.Overflow.{Overflow}
use Rattle.rule_types.specs.declared.action.Action.{Action}
use Rattle.rule_types.specs.declared.action.ActionAt.{ActionAt}
use Rattle.rule_types.specs.declared.action.Order.{Order}
use Rattle.rule_types.specs.declared.action.PidMemory.{PidMemory}
use Rattle.rule_types.specs.declared.action.What.{What}
use Rattle.rule_types.specs.declared.action.What.TheVariants.{Pid}
use Rattle.rule_types.specs.declared.rules.Rules.{Rules}
use Rattle.rule_types.specs.declared.state.LinkState.{LinkState}
use Rattle.rule_types.specs.declared.state.State.{State}
use Rattle.rule_types.specs.declared.stop.Stop.{Stop}
use Rattle.rule_types.specs.Tables.{TableSet}
use Rattle.rule_meaning.specs.Clock.{hours_of}
use Rattle.rule_meaning.specs.Movement.{moved}
use Rattle.rule_meaning.specs.Pid.{Stepped, fresh}
use Rattle.rule_meaning.specs.Premise.{listed}
use Rattle.rule_meaning.specs.Reading.{Choice, settling, pid_at, read_by}
use Rattle.rule_meaning.specs.Settled.{action_at}
use Rattle.rule_meaning.specs.State.{beside}

-- whether a moment is due where the last due row was then: at least RULE_STEP has passed, or there
-- was none (SWMM 5.2 manual, [OPTIONS], RULE_STEP)
abbrev pub is_due_after : Rational → Option ℤ → ℤ → Bool
is_due_after rule_step None moment = true
is_due_after rule_step (Some last) moment = not (less (whole (moment -ℤ last)) rule_step)

-- the moment of the last due state of a list
abbrev pub last_due : Rational → List State → Option ℤ
last_due rule_step [] = None
last_due rule_step (s ∷ older) =
    if is_due_after rule_step (last_due rule_step older) s.moment
    then Some s.moment
    else last_due rule_step older

-- whether rules are read at a state after a list of states (SWMM 5.2 manual, [OPTIONS], RULE_STEP)
abbrev pub is_due : Rational → List State → State → Bool
is_due rule_step older s = is_due_after rule_step (last_due rule_step older) s.moment

-- whether an action is the PID action of a number
abbrev pub is_pid_what : ℕ → What → Bool
is_pid_what number (Pid set other) = number == other
is_pid_what number what = false

abbrev pub is_pid_action : ℕ → Option Action → Bool
is_pid_action number None = false
is_pid_action number (Some action) = is_pid_what number action.what

-- the memory that a PID action leaves
abbrev pub memory_left : PidMemory → Option (Result Stepped Overflow) → PidMemory
memory_left before None = before
memory_left before (Some (Ok stepped)) = stepped.memory
memory_left before (Some (Err why)) = before

-- the memory of the PID action of a number after some listed pairs: what that action leaves, where
-- it is among them, else the memory before
unfoldable pub memory_listed : Rules → State → (ℕ → PidMemory) → ℕ → List ActionAt → PidMemory
memory_listed x s before number [] = before number
memory_listed x s before number (at ∷ more) =
    if is_pid_action number (action_at x.rules at)
    then memory_left (before number) (pid_at x s before at)
    else memory_listed x s before number more

-- the memory after a reading: that of the listed PID actions, and after a stop the memory before
abbrev pub memory_read : Rules → State → (ℕ → PidMemory) → ℕ → Result (List Order) Stop → PidMemory
memory_read x s before number (Ok orders) = memory_listed x s before number (listed x s)
memory_read x s before number (Err stop) = before number

-- The memory of the PID action of a number after a list of states: 0 and 0 at first, and with one
-- more state what that action leaves there, where the state is due, its reading does not stop and
-- the action is listed; else it stays.
abbrev pub memory_by : Choice → Rules → TableSet → List State → ℕ → PidMemory
memory_by choice x tables [] number = fresh
memory_by choice x tables (s ∷ older) number =
    if is_due x.rule_step older s
    then memory_read x s (memory_by choice x tables older) number
    (read_by choice x tables s (memory_by choice x tables older))
    else memory_by choice x tables older number

-- the reading of a state after a list of states: at a state that is not due nothing is taken, and
-- it does not stop
abbrev pub reading_by : Choice → Rules → TableSet → List State → State → Result (List Order) Stop
reading_by choice x tables older s =
    if is_due x.rule_step older s
    then read_by choice x tables s (memory_by choice x tables older)
    else Ok []

-- the same where each link takes its settled pair (SWMM 5.2 manual, [CONTROLS])
abbrev pub memory : Rules → TableSet → List State → ℕ → PidMemory
memory x = memory_by (settling x) x

abbrev pub reading : Rules → TableSet → List State → State → Result (List Order) Stop
reading x = reading_by (settling x) x

-- the hours since the last state, and the routing step before the first one
abbrev pub gap_hours : Rational → List State → State → Rational
gap_hours routing_step [] s = quotient_of routing_step (whole (pos 3600))
gap_hours routing_step (last ∷ older) s = hours_of (s.moment -ℤ last.moment)

-- the new target of a link: the value of its order, or the old target where it has none
unfoldable pub new_target : List Order → ℕ → Rational → Rational
new_target [] link old = old
new_target (one ∷ more) link old = if one.link == link then one.value else new_target more link old

-- where a link stands after a row
pub record Standing : Type 0 where
  pub setting : Rational
  pub target : Rational

abbrev pub standing_of : Rational → Rational → Rational → Rational → Standing
standing_of rate gap setting target =
    record { setting = moved rate gap setting target; target = target }

-- each tracked link after orders: its new target, and its setting moved towards it
unfoldable pub all_moved : Rational → List Order → List ℕ → List Rational → List LinkState
    → List Standing
all_moved gap orders [] rates states = []
all_moved gap orders (link ∷ links) [] states = []
all_moved gap orders (link ∷ links) (rate ∷ rates) [] = []
all_moved gap orders (link ∷ links) (rate ∷ rates) (old ∷ states) =
    standing_of rate gap old.setting (new_target orders link old.target)
    ∷ all_moved gap orders links rates states

-- after a stop each link stays as it was
abbrev pub stayed : List LinkState → List Standing
stayed [] = []
stayed (old ∷ states) = record { setting = old.setting; target = old.target } ∷ stayed states

abbrev pub standings_after : Rules → Rational → State → Result (List Order) Stop → List Standing
standings_after x gap s (Ok orders) = all_moved gap orders x.tracked x.rates s.links
standings_after x gap s (Err stop) = stayed s.links

-- The settings and targets of the tracked links after the row of a state: each link that takes a
-- pair gets that pair's value as its target, the others keep theirs, and the settings follow (SWMM
-- 5.2 manual, [CONTROLS] and [ORIFICES]).
abbrev pub standings_by : Choice → Rules → TableSet → List State → State → List Standing
standings_by choice x tables older s =
    standings_after x (gap_hours x.routing_step older s) s (reading_by choice x tables older s)

abbrev pub standings : Rules → TableSet → List State → State → List Standing
standings x = standings_by (settling x) x

-- the setting of each controlled link, picked from where the tracked links stand
abbrev pub setting_or_zero : Option Standing → Rational
setting_or_zero None = zero
setting_or_zero (Some at) = at.setting

unfoldable pub controlled_settings : Rules → List Standing → List Rational
controlled_settings x standing =
    map (λ link. setting_or_zero (beside (λ other. link == other) x.tracked standing)) x.controlled

-- a link is on its way: its new setting lies between the old one and the new target
pub record IsOnTheWay (old : LinkState) (new : Standing) : Type 0 where
  pub up : old.setting ≤ℚ new.target → (old.setting ≤ℚ new.setting) × (new.setting ≤ℚ new.target)
  pub down : new.target ≤ℚ old.setting → (new.target ≤ℚ new.setting) × (new.setting ≤ℚ old.setting)
