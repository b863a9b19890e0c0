-- The lines of a run of bytes, and what a reader with a limit and a budget reports of them.
use Rattle.std.specs.Prelude.{◌≡◌, ◌<◌, ◌⊎◌, ℕ, ◌+◌, ◌-◌, ◌==◌, if◌then◌else◌, nat_le, Bool, List, [], ◌∷◌, ◌++◌, map, length, Some, None, Option, ⊤}
use Rattle.std.specs.List.{list_any}
use Rattle.std.specs.Io.BufRead.{strip_last}
use Rattle.byte_edge.specs.TextBytes.{line_feed, carriage_return}

-- a byte before the first of the lines
abbrev pub onto_first : ℕ → List (List ℕ) → List (List ℕ)
onto_first byte [] = (byte ∷ []) ∷ []
onto_first byte (line ∷ rest) = (byte ∷ line) ∷ rest

-- the bytes cut after each LF, which stays with its line; bytes after the last LF are a line too
abbrev pub raw_lines : List ℕ → List (List ℕ)
raw_lines [] = []
raw_lines (byte ∷ rest) =
    if byte == line_feed then (byte ∷ []) ∷ raw_lines rest else onto_first byte (raw_lines rest)

-- a line without its LF, and without one CR before that end or before the end of the file
abbrev pub line_text : List ℕ → List ℕ
line_text raw = strip_last carriage_return (strip_last line_feed raw)

-- the lines of a file (SWMM 5.2 manual, appendix D: an input file is lines of text)
abbrev pub lines : List ℕ → List (List ℕ)
lines bytes = map line_text (raw_lines bytes)

-- the number of LF
abbrev pub newlines : List ℕ → ℕ
newlines [] = 0
newlines (byte ∷ rest) = (if byte == line_feed then 1 else 0) + newlines rest

-- an LF is among these bytes
abbrev pub has_line_feed : List ℕ → Bool
has_line_feed bytes = list_any (λ byte. byte == line_feed) bytes

-- the bytes of a line up to its LF, which is its only one
pub record IsWholeLine (raw : List ℕ) : Type 0 where
  pub text : List ℕ
  pub is : raw ≡ text ++ line_feed ∷ []
  pub only : newlines text ≡ 0

-- each of these lines but the last ends with its only LF; the last may lack it; none is empty
abbrev pub AreLines : List (List ℕ) → Type 0
AreLines [] = ⊤
AreLines (raw ∷ []) = IsWholeLine raw ⊎ ((newlines raw ≡ 0) × (0 < length raw))
AreLines (raw ∷ next ∷ rest) = IsWholeLine raw × AreLines (next ∷ rest)

-- a line, or `None` where it has over `limit` bytes
abbrev pub capped : ℕ → List ℕ → Option (List ℕ)
capped limit text = if nat_le (length text) limit then Some text else None

-- what a reader reports of one line: its text, that it has over `limit` bytes, or that it reaches
-- past the budget
pub data LineEvent : Type 0 where
  Whole : List ℕ → LineEvent
  OverLong : LineEvent
  PastBudget : LineEvent

-- what it reports of a line within the budget
abbrev pub line_event_of : ℕ → List ℕ → LineEvent
line_event_of limit raw =
    if nat_le (length (line_text raw)) limit then Whole (line_text raw) else OverLong

-- what it reports, in order, of the lines that lie ahead, with `room` bytes left of its budget
abbrev pub line_events : ℕ → ℕ → List (List ℕ) → List LineEvent
line_events limit room [] = []
line_events limit room (raw ∷ rest) =
    if nat_le (length raw) room
    then line_event_of limit raw ∷ line_events limit (room - length raw) rest
    else PastBudget ∷ []
