-- A whole reading.
use Rattle.std.proofs.Common.{◌≡◌, ℕ, Option, Some, None, Result, Ok, Err, List, map, ap, ◌∙◌}
use Rattle.rule_types.specs.declared.action.ActionAt.{ActionAt}
use Rattle.rule_types.specs.declared.action.Order.{Order}
use Rattle.rule_types.specs.declared.action.PidMemory.{PidMemory}
use Rattle.rule_types.specs.declared.rules.Rules.{Rules}
use Rattle.rule_types.specs.declared.state.State.{State}
use Rattle.rule_types.specs.declared.stop.Stop.{Stop}
use Rattle.rule_meaning.specs.History.{memory_read}
use Rattle.rule_meaning.specs.Premise.{listed}
use Rattle.rule_meaning.specs.Reading.{unless_stopped, settling}
use Rattle.rule_meaning.specs.Settled.{settled_on}
use Rattle.priority_settle.specs.Settling.{settled_each}
use Rattle.action_values.specs.Readings.{told, memory_told}

pub stopped_read : {A : Type 0} (names : Option Stop) (stop : Stop) (rest : Result A Stop)
    → Some stop ≡ names → Err stop ≡ unless_stopped names rest
stopped_read names stop rest is = ap (λ o. unless_stopped o rest) is

pub going_read : {A : Type 0} (names : Option Stop) (rest : Result A Stop)
    → None ≡ names → rest ≡ unless_stopped names rest
going_read names rest is = ap (λ o. unless_stopped o rest) is

pub memory_whole : {A : Type 0} (x : Rules) (s : State) (before : ℕ → PidMemory) (number : ℕ)
    (answer : Result A Stop) (orders : List Order) (read : Result (List Order) Stop)
    → told answer orders ≡ read
    → memory_told answer x s before number (listed x s) ≡ memory_read x s before number read
memory_whole x s before number (Ok done) orders read is = ap (memory_read x s before number) is
memory_whole x s before number (Err stop) orders read is = ap (memory_read x s before number) is

pub memory_stopped : (x : Rules) (s : State) (before : ℕ → PidMemory) (number : ℕ) (stop : Stop)
    (read : Result (List Order) Stop)
    → Err stop ≡ read → before number ≡ memory_read x s before number read
memory_stopped x s before number stop read is = ap (memory_read x s before number) is

pub firsts_are : (x : Rules) (s : State) (firsts : List (Option ActionAt)) (pairs : List ActionAt)
    → firsts ≡ settled_each x.rules x.controlled pairs → pairs ≡ listed x s
    → firsts ≡ map (settling x s) x.controlled
unfolding settling
firsts_are x s firsts pairs are same =
    are ∙ ap (λ l. map (settled_on x.rules l) x.controlled) same
