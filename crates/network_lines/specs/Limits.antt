-- The limits of an input file.
use Rattle.std.specs.Prelude.{ℕ, nat_le, List}
use Rattle.rule_types.specs.declared.refusal.Cause.TheVariants.{TooMany}
use Rattle.control_lines.specs.Faults.{Checked, fault_of, refused_where}

-- how many objects a file may have
abbrev pub most_objects : ℕ
most_objects = 65_536

-- there is no room for one more, where there are so many already; the token says of what
unfoldable pub room_for : List ℕ → ℕ → ℕ → Checked (Unit {0})
room_for things most count = refused_where (nat_le most count) (fault_of TooMany things)
