-- The parts of a row.
use Rattle.std.specs.Prelude.{ℕ, Bool, true, false, if◌then◌else◌, Option, Some, List, []}
use Rattle.std.specs.Prelude.{Result, Ok, ℤ, length}
use Rattle.std.specs.List.{flat_map}
use Rattle.exact_fraction.specs.Number.{Rational}
use Rattle.rule_types.specs.declared.action.Action.{Action}
use Rattle.rule_types.specs.declared.action.Order.{Order}
use Rattle.rule_types.specs.declared.action.PidMemory.{PidMemory}
use Rattle.rule_types.specs.declared.action.What.{What}
use Rattle.rule_types.specs.declared.action.What.TheVariants.{Constant, Curve, Series, Pid}
use Rattle.rule_types.specs.declared.rules.Rules.{Rules}
use Rattle.rule_types.specs.declared.state.LinkState.{LinkState}
use Rattle.rule_types.specs.declared.state.State.{State}
use Rattle.rule_types.specs.declared.stop.Stop.{Stop}
use Rattle.rule_types.specs.Reading.{pid_of}
use Rattle.rule_meaning.specs.Memories.{memories_after}

-- the orders of a row: none where it is not due
abbrev pub orders_when : Bool → List Order → List Order
orders_when due orders = if due then orders else []

-- the reading of a row: nothing where it is not due
abbrev pub reading_when : Bool → Result (List Order) Stop → Result (List Order) Stop
reading_when due reading = if due then reading else Ok []

-- the moment of the last row that was due, after a row
abbrev pub due_after : Bool → ℤ → Option ℤ → Option ℤ
due_after due moment last = if due then Some moment else last

-- the memories after a row
abbrev pub memories_when : Bool → Rules → State → List PidMemory → Result (List Order) Stop
    → List PidMemory
memories_when due x s before reading =
    if due then memories_after x s before reading else before

-- a state of these parts
abbrev pub state_at : ℤ → ℤ → Rational → List (Option Rational) → List LinkState → State
state_at moment start step inputs links = record {
  moment = moment;
  start = start;
  step = step;
  inputs = inputs;
  links = links;
}

-- whether an action is a PID action, and how many of some are
abbrev pub is_pid_kind : What → Bool
is_pid_kind (Constant q) = false
is_pid_kind (Curve number) = false
is_pid_kind (Series number) = false
is_pid_kind (Pid set number) = true

abbrev pub pids_among : List Action → ℕ
pids_among actions = length (flat_map (λ action. pid_of action.what) actions)
