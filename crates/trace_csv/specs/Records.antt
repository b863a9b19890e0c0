-- The record of a line of a trace: its fields, as CSV reads them (RFC 4180; the reading is that
-- of the crate `csv` with its default settings and without a header row).
use Rattle.std.specs.Prelude.{ℕ, Bool, false, not, ◌&&◌, ◌||◌, ◌==◌, List, [], ◌∷◌, Option}
use Rattle.std.specs.Prelude.{option_map}
use Rattle.std.specs.List.{list_all, slice_split}
use Rattle.csv.specs.Machine.{next_record}
use Rattle.csv.specs.Reading.{default_config, strip_bom}
use Rattle.csv.specs.declared.parser.State.TheVariants.{StartRecord}

-- the bytes that CSV gives a meaning
abbrev pub comma : ℕ
comma = 44

abbrev pub double_quote : ℕ
double_quote = 34

abbrev pub line_feed : ℕ
line_feed = 10

abbrev pub carriage_return : ℕ
carriage_return = 13

-- the first byte of the byte order mark
abbrev pub mark_start : ℕ
mark_start = 239

-- The fields of the first record of a line, or nothing where the line has none. A byte order mark
-- at the start of the line is dropped; what stands behind the first record is unread.
unfoldable pub record_of : List ℕ → Option (List (List ℕ))
record_of line =
    option_map (λ read. read.0) (next_record default_config StartRecord [] [] (strip_bom line))

-- a byte other than a double quote, CR and LF
abbrev pub is_plain : ℕ → Bool
is_plain byte = not (byte == double_quote || (byte == carriage_return || byte == line_feed))

-- a line that has a byte, no double quote, no CR and no LF, and does not begin as a byte order mark
-- does
abbrev pub is_plain_line : List ℕ → Bool
is_plain_line [] = false
is_plain_line (byte ∷ bytes) = not (byte == mark_start) && list_all is_plain (byte ∷ bytes)

-- a line cut at its commas
abbrev pub cut_at_commas : List ℕ → List (List ℕ)
cut_at_commas line = slice_split (λ byte. byte == comma) line
