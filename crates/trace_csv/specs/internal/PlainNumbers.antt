-- The bytes of numbers that are read in the walk to their comma.
use Rattle.std.specs.Prelude.{ℕ, Bool, ◌||◌, ◌==◌}
use Rattle.std.specs.Char.{is_ascii_digit}
use Rattle.num_text.specs.Bytes.{point}

-- a digit or a point
abbrev pub is_part : ℕ → Bool
is_part byte = is_ascii_digit byte || byte == point
