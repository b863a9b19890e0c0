-- The trace of the generated model: ten rows for each pump, five minutes apart.
use Rattle.std.specs.Prelude.{ℕ, ◌+◌, ◌*◌, ◌%◌, List, ◌++◌, codes, pos}
use Rattle.std.specs.Fmt.{decimal}
use Rattle.std.specs.List.{flat_map, range_with_len}
use Rattle.num_text.specs.Written.{written_moment}
use Rattle.model_generator.specs.InputFile.{numbered, up_to}

-- the depth at a junction in a row: junctions are counted from 1, rows from 0
abbrev pub depth_at : ℕ → ℕ → ℕ
depth_at j i = (7 * i + 3 * j) % 11

-- the second of a row, from 2000-01-01T00:00:00 on
abbrev pub second_of_row : ℕ → ℕ
second_of_row j = 946684800 + 300 * j

-- the name of a column
abbrev pub column_text : ℕ → List ℕ
column_text i = numbered (codes ",NODE N") i ++ codes " DEPTH"

-- the header
abbrev pub header_text : ℕ → List ℕ
header_text n = codes "moment" ++ flat_map column_text (up_to n) ++ codes "\n"

-- a depth of a row
abbrev pub depth_text : ℕ → ℕ → List ℕ
depth_text j i = codes "," ++ decimal (depth_at j i)

-- a row: its moment and the depths
abbrev pub row_text : ℕ → ℕ → List ℕ
row_text n j =
    written_moment (pos (second_of_row j)) ++ flat_map (depth_text j) (up_to n) ++ codes "\n"

-- the trace of a model of n pumps
abbrev pub generated_trace : ℕ → List ℕ
generated_trace n = header_text n ++ flat_map (row_text n) (range_with_len 0 (10 * n))
