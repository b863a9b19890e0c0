-- A line that is being taken part by part.
use Rattle.std.specs.Prelude.{◌≡◌, ℕ, ◌+◌, ◌<◌, ◌≤◌, ◌⊎◌, Bool, false, IsTrue, List, length, take, Option}
use Rattle.std.specs.Io.KnownBytes.{Consumes}
use Rattle.byte_edge.specs.Lines.{newlines, IsWholeLine}

-- the first `most` bytes of a line
pub record LinePrefix : Type 0 where
  pub bytes : List ℕ
  pub most : ℕ

-- the bytes `raw` were taken for a line, and paid for from the budget
pub record IsTaken (raw : List ℕ) (line : LinePrefix) (old_room new_room : ℕ)
    (before after : Option (List ℕ)) : Type 0 where
  pub kept : line.bytes ≡ take line.most raw
  pub paid : length raw + new_room ≡ old_room
  pub consumed : Consumes before after raw

-- the bytes `raw` of one line were taken, and are more than the budget has left
pub record IsOver (raw : List ℕ) (room : ℕ) (before after : Option (List ℕ)) : Type 0 where
  pub over : room < length raw
  pub one_line : (newlines raw ≡ 0) ⊎ IsWholeLine raw
  pub consumed : Consumes before after raw

-- `len` of these bytes are the next part of a line: up to its LF, or all of them where no LF is
-- there
pub record IsNextPart (len : ℕ) (whole : Bool) (bytes : List ℕ) : Type 0 where
  pub within : len ≤ length bytes
  pub line : IsTrue whole → IsWholeLine (take len bytes)
  pub all : whole ≡ false → (len ≡ length bytes) × (newlines bytes ≡ 0)
