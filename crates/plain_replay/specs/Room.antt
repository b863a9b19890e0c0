-- The room of a reading that takes no memory.
use Rattle.std.specs.Prelude.{ℕ, ◌≤◌, length}
use Rattle.rule_types.specs.declared.rules.Rules.{Rules}
use Rattle.rule_types.specs.Reading.{pid_count}
use Rattle.plain_reading.specs.Room.{Kit, IsKit}

-- it has a kit for the rules and their PID actions, and room for an order of each controlled link
pub record HasRoom (x : Rules) (made : Kit) (room : ℕ) : Type 0 where
  pub kit : IsKit x (pid_count x.rules) made
  pub orders : length x.controlled ≤ room
