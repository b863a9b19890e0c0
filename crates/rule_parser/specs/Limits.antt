-- The limits of the control lines of an input file.
use Rattle.std.specs.Prelude.{ℕ}

-- how many there may be: rules and names of a file, conditions of a rule and actions of one branch
-- of a rule
abbrev pub most_rules : ℕ
most_rules = 4_096

abbrev pub most_names : ℕ
most_names = 1_024

abbrev pub most_conditions : ℕ
most_conditions = 256

abbrev pub most_actions : ℕ
most_actions = 64
