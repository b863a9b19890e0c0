-- Bytes held under names.
use Rattle.std.specs.Prelude.{ℕ, Bool, List, [], Some, None, Option, option_map, slice_get, string_bytes, String, Vec, position}
use Rattle.std.specs.declared.alloc.Global.{Global}
use Rattle.std.specs.Str.{bytes_eq}

-- a name and the bytes held under it
abbrev pub Entry : Type 0
Entry = String Global × Vec ℕ Global

-- the bytes of an entry, or none
abbrev pub bytes_of : Option Entry → List ℕ
bytes_of (Some entry) = entry.1.items
bytes_of None = []

-- the bytes of the entry at a place, or none
abbrev pub bytes_at : List Entry → ℕ → List ℕ
bytes_at entries at = bytes_of (slice_get entries at)

-- the entry has this name
abbrev pub has_name : List ℕ → Entry → Bool
has_name name entry = bytes_eq (string_bytes entry.0) name

-- the bytes of the first entry with this name
abbrev pub held_under : List Entry → List ℕ → Option (List ℕ)
held_under entries name = option_map (bytes_at entries) (position (has_name name) entries)
