-- The memories of PID actions as a list.
use Rattle.std.specs.Prelude.{◌≡◌, ℕ, Result, List, All, map, get_or}
use Rattle.std.specs.List.{range_with_len}
use Rattle.rule_types.specs.declared.action.Order.{Order}
use Rattle.rule_types.specs.declared.action.PidMemory.{PidMemory}
use Rattle.rule_types.specs.declared.rules.Rules.{Rules}
use Rattle.rule_types.specs.declared.state.State.{State}
use Rattle.rule_types.specs.declared.stop.Stop.{Stop}
use Rattle.rule_types.specs.Reading.{pid_numbers, pid_count}
use Rattle.rule_meaning.specs.History.{memory_read}
use Rattle.rule_meaning.specs.Pid.{fresh}

-- the memory of a number, where memories stand in a list by their numbers: a fresh one past its end
abbrev pub memory_of : List PidMemory → ℕ → PidMemory
memory_of memories number = get_or memories number fresh

-- the memories that a reading of this result leaves, one for each PID action of the rules
unfoldable pub memories_after :
    Rules → State → List PidMemory → Result (List Order) Stop → List PidMemory
memories_after x s before read =
    map (λ number. memory_read x s (memory_of before) number read)
    (range_with_len 0 (pid_count x.rules))

-- two ways to give memories agree on the PID actions of the rules
abbrev pub SamePidMemories : Rules → (ℕ → PidMemory) → (ℕ → PidMemory) → Type 0
SamePidMemories x memory other = All (λ number. memory number ≡ other number) (pid_numbers x.rules)
