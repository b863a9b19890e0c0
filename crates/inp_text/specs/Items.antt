-- The items of a line of an input file.
use Rattle.std.specs.Prelude.{◌≡◌, ℕ, ◌+◌, ◌<◌, ◌≤◌, Bool, true, false, ◌||◌, ◌==◌, nat_lt}
use Rattle.std.specs.Prelude.{List, [], ◌∷◌, ◌++◌, if◌then◌else◌, map, drop, length, slice_range}
use Rattle.inp_text.specs.Bytes.{space, tab, semicolon}
use Rattle.inp_text.specs.declared.line.Span.{Span}

-- a blank between items: a space or a tab
abbrev pub is_blank : ℕ → Bool
is_blank byte = (byte == space) || (byte == tab)

-- the bytes before the first semicolon, which begins a comment (SWMM 5.2 manual, appendix D)
abbrev pub before_comment : List ℕ → List ℕ
before_comment [] = []
before_comment (byte ∷ rest) = if byte == semicolon then [] else byte ∷ before_comment rest

-- no item begins these bytes
abbrev pub begins_blank : List ℕ → Bool
begins_blank [] = true
begins_blank (byte ∷ rest) = is_blank byte

-- the items, where the first of them begins with this byte too
abbrev pub onto_first : ℕ → List (List ℕ) → List (List ℕ)
onto_first byte [] = (byte ∷ []) ∷ []
onto_first byte (word ∷ later) = (byte ∷ word) ∷ later

-- the longest runs of bytes that are no blanks, in their order
abbrev pub words : List ℕ → List (List ℕ)
words [] = []
words (byte ∷ rest) =
    if is_blank byte
    then words rest
    else (if begins_blank rest then (byte ∷ []) ∷ words rest else onto_first byte (words rest))

-- the items of a line: its words before the comment
abbrev pub items : List ℕ → List (List ℕ)
items line = words (before_comment line)

-- the bytes of a line at a place
abbrev pub text_at : List ℕ → Span → List ℕ
text_at line place = slice_range line place.start place.end

-- the texts of a line at these places, in their order
abbrev pub texts_at : List ℕ → List Span → List (List ℕ)
texts_at line places = map (text_at line) places

-- a place in a line of this length that holds a byte or more
pub record IsPlace (len : ℕ) (place : Span) : Type 0 where
  pub some : place.start < place.end
  pub within : place.end ≤ len

-- the place from start to end, where it holds a byte or more
abbrev pub place_between : ℕ → ℕ → List Span
place_between start end =
    if nat_lt start end then record { start = start; end = end } ∷ [] else []

-- the places of words, in their order, where the first of these bytes is at `at`, and a word that
-- they may continue began at `start`
abbrev pub places_from : ℕ → ℕ → List ℕ → List Span
places_from start at [] = place_between start at
places_from start at (byte ∷ rest) =
    if is_blank byte
    then place_between start at ++ places_from (at + 1) (at + 1) rest
    else places_from start (at + 1) rest

-- the places of the items of a line, in their order: those of the words before the comment
unfoldable pub item_places : List ℕ → List Span
item_places line = places_from 0 0 (before_comment line)

-- no word goes over this index of a text: a blank is there, or the text has ended
abbrev pub is_gap : List ℕ → ℕ → Bool
is_gap text at = begins_blank (drop at text)

-- a place of a text that holds a longest run of bytes that are no blanks
pub record IsLongestRun (text : List ℕ) (place : Span) : Type 0 where
  pub some : place.start < place.end
  pub within : place.end ≤ length text
  pub solid : (at : ℕ) → place.start ≤ at → at < place.end → is_gap text at ≡ false
  pub gap_before : (at : ℕ) → at + 1 ≡ place.start → is_gap text at ≡ true
  pub gap_after : is_gap text place.end ≡ true
