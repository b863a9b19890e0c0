-- What the calls of a reading answer and leave.
use Rattle.std.specs.Prelude.{ℕ, Result, Ok, Err, List, ◌++◌}
use Rattle.rule_types.specs.declared.action.ActionAt.{ActionAt}
use Rattle.rule_types.specs.declared.action.Order.{Order}
use Rattle.rule_types.specs.declared.action.PidMemory.{PidMemory}
use Rattle.rule_types.specs.declared.rules.Rules.{Rules}
use Rattle.rule_types.specs.declared.state.State.{State}
use Rattle.rule_types.specs.declared.stop.Stop.{Stop}
use Rattle.rule_meaning.specs.History.{memory_listed}

-- a call's answer with the orders that it wrote: the stop, or those orders
abbrev pub told : {A : Type 0} → Result A Stop → List Order → Result (List Order) Stop
told (Ok done) orders = Ok orders
told (Err stop) orders = Err stop

-- orders before those of a result
abbrev pub prepended : List Order → Result (List Order) Stop → Result (List Order) Stop
prepended done (Ok more) = Ok (done ++ more)
prepended done (Err stop) = Err stop

-- what comes after a step: its stop, or what follows
abbrev pub step_then : {A B : Type 0} → Result A Stop → Result B Stop → Result B Stop
step_then (Ok done) later = later
step_then (Err stop) later = Err stop

-- the memory that a call leaves: after a stop the one before
abbrev pub memory_told : {A : Type 0} → Result A Stop → Rules → State → (ℕ → PidMemory) → ℕ
    → List ActionAt → PidMemory
memory_told (Ok done) x s before number pairs = memory_listed x s before number pairs
memory_told (Err stop) x s before number pairs = before number
