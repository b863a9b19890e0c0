-- The keys that lines of a report name, with their values and pieces.
use Rattle.std.specs.Prelude.{ℕ, Bool, true, false, ◌==◌, if◌then◌else◌, List, [], ◌∷◌, ◌++◌}
use Rattle.std.specs.Prelude.{◌-◌, take, length, slice_get, codes, Option, None, Some, Result, Ok, Err}
use Rattle.std.specs.List.{slice_split}
use Rattle.std.specs.Str.{bytes_eq}
use Rattle.exact_fraction.specs.Number.{Rational}
use Rattle.interval_sets.specs.declared.interval.Bound.{Bound}
use Rattle.interval_sets.specs.declared.interval.Bound.TheVariants as end
use Rattle.interval_sets.specs.declared.interval.Interval.{Interval}
use Rattle.interval_sets.specs.Intervals.{has_member}
use Rattle.key_words.specs.KeyTexts.{key_text}
use Rattle.key_words.specs.Words.{object_word, attribute_of}
use Rattle.num_text.specs.Fields.{◌>>=◌}
use Rattle.object_index.specs.Objects.{Objects, resolution}
use Rattle.object_index.specs.declared.unresolved.Unresolved.{Unresolved}
use Rattle.rule_types.specs.declared.key.Attr.{Attr}
use Rattle.rule_types.specs.declared.key.Key.{Key}
use Rattle.rule_types.specs.declared.key.Key.TheVariants.{Object}
use Rattle.rule_types.specs.declared.object.ObjectNo.{ObjectNo}
use Rattle.rule_types.specs.declared.object.ObjectWord.{ObjectWord}
use Rattle.report_lines.specs.Words.{Word, value_of}

-- what stands behind a text at the head of a line
unfoldable pub past_text : List ℕ → List ℕ → Option (List ℕ)
past_text [] line = Some line
past_text (byte ∷ text) [] = None
past_text (byte ∷ text) (first ∷ line) = if byte == first then past_text text line else None

-- what stands behind a word, a key and a space at the head of a line
unfoldable pub past_key : List ℕ → Objects → Key → List ℕ → Option (List ℕ)
past_key word objects key line =
    past_text (word ++ codes " " ++ key_text objects key ++ codes " ") line

-- ---- the key that words name
abbrev pub key_with : Result ObjectNo Unresolved → Option Attr → Option Key
key_with (Ok object) (Some attribute) = Some (Object object attribute)
key_with (Ok object) None = None
key_with (Err fault) attribute = None

abbrev pub key_by : Objects → Option ObjectWord → Word → Word → Option Key
key_by objects None name attribute = None
key_by objects (Some word) name attribute =
    key_with (resolution objects word name) (attribute_of word attribute)

-- the key that the three words behind the first one name, in any case
unfoldable pub key_named : Objects → List Word → Option Key
key_named objects (first ∷ word ∷ name ∷ attribute ∷ more) =
    key_by objects (object_word word) name attribute
key_named objects words = None

-- ---- pieces: `[` or `(`, the lower end or `-inf`, a comma, the upper end or `+inf`, `]` or `)`; a
-- round bracket leaves its end out, and stands where there is no end
abbrev pub bound_if : Bool → Option Rational → Option Bound
bound_if out None = None
bound_if out (Some q) = Some (end.Bound q out)

abbrev pub open_end : List ℕ → List ℕ → Option Bound
open_end endless text =
    if bytes_eq endless text then Some end.NoBound else bound_if true (value_of text)

unfoldable pub low_end : List ℕ → Option Bound
low_end [] = None
low_end (byte ∷ text) =
    if byte == 40 then open_end (codes "-inf") text
    else (if byte == 91 then bound_if false (value_of text) else None)

abbrev pub high_by : List ℕ → ℕ → Option Bound
high_by text byte =
    if byte == 41 then open_end (codes "+inf") text
    else (if byte == 93 then bound_if false (value_of text) else None)

-- by its last byte and what stands before it
abbrev pub front_of : List ℕ → List ℕ
front_of text = take (length text - 1) text

unfoldable pub high_end : List ℕ → Option Bound
high_end text = slice_get text (length text - 1) >>= high_by (front_of text)

abbrev pub interval_of : Option Bound → Option Bound → Option Interval
interval_of None high = None
interval_of (Some low) None = None
interval_of (Some low) (Some high) =
    if has_member low high then Some (record { low = low; high = high }) else None

abbrev pub piece_by : List (List ℕ) → Option Interval
piece_by (low ∷ high ∷ []) = interval_of (low_end low) (high_end high)
piece_by parts = None

-- the interval that is written, where it has a member
unfoldable pub piece_of : List ℕ → Option Interval
piece_of text = piece_by (slice_split (λ byte. byte == 44) text)
