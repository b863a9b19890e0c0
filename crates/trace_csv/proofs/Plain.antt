-- A plain line is one record, cut at its commas.
use Rattle.std.proofs.Common.{◌≡◌, ℕ, Bool, true, false, not, ◌||◌, ◌&&◌, cond, List, [], ◌∷◌, ◌++◌, Option, Some, refl, ap, sym, ◌∙◌, ◌==◌, option_map, append_assoc, append-nil, IsTrue}
use Rattle.std.proofs.lemmas.Bool.{false≢true}
use Rattle.std.specs.List.{list_all, onto_first}
use Rattle.csv.specs.Machine.{Read, next_record, step, is_end, fields_after, field_after, ends_at_end}
use Rattle.csv.specs.Reading.{default_config, strip_bom}
use Rattle.csv.specs.declared.parser.State.{State}
use Rattle.csv.specs.declared.parser.State.TheVariants.{StartRecord, StartField, InField, InQuoted}
use Rattle.csv.specs.declared.parser.Action.{Action}
use Rattle.csv.specs.declared.parser.Action.TheVariants.{EndField, Copy, EndRecord, Skip}
use Rattle.trace_csv.specs.Records.{record_of, is_plain, is_plain_line, cut_at_commas}

-- what a plain byte does between quotes
abbrev plain_step : Bool → State × Action
plain_step true = (StartField, EndField)
plain_step false = (InField, Copy)

-- the tests of a step, as truth values
in_field_by : (quote comma ends : Bool) (after : State) → not (quote || ends) ≡ true
    → cond comma (StartField, EndField) (cond ends (after, EndRecord) (InField, Copy)) ≡ plain_step comma
in_field_by quote true ends after plain = refl
in_field_by quote false false after plain = refl
in_field_by true false true after plain = absurd (false≢true plain)
in_field_by false false true after plain = absurd (false≢true plain)

start_field_by : (quote comma ends : Bool) (after : State) → not (quote || ends) ≡ true
    → cond quote (InQuoted, Skip) (cond comma (StartField, EndField) (cond ends (after, EndRecord) (InField, Copy)))
    ≡ plain_step comma
start_field_by true comma ends after plain = absurd (false≢true plain)
start_field_by false comma ends after plain = in_field_by false comma ends after plain

start_record_by : (quote comma ends : Bool) (after : State) → not (quote || ends) ≡ true
    → cond ends (StartRecord, Skip)
    (cond quote (InQuoted, Skip) (cond comma (StartField, EndField) (cond ends (after, EndRecord) (InField, Copy))))
    ≡ plain_step comma
start_record_by quote comma false after plain = start_field_by quote comma false after plain
start_record_by true comma true after plain = absurd (false≢true plain)
start_record_by false comma true after plain = absurd (false≢true plain)

in_field_step : (byte : ℕ) → is_plain byte ≡ true → step default_config InField byte ≡ plain_step (byte == 44)
in_field_step byte plain = in_field_by (byte == 34) (byte == 44) _ _ plain

start_field_step : (byte : ℕ) → is_plain byte ≡ true → step default_config StartField byte ≡ plain_step (byte == 44)
start_field_step byte plain = start_field_by (byte == 34) (byte == 44) _ _ plain

start_record_step : (byte : ℕ) → is_plain byte ≡ true → step default_config StartRecord byte ≡ plain_step (byte == 44)
start_record_step byte plain = start_record_by (byte == 34) (byte == 44) _ _ plain

-- the bytes of a field that was begun, before the first of the parts
abbrev prepend : List ℕ → List (List ℕ) → List (List ℕ)
prepend field [] = field ∷ []
prepend field (part ∷ parts) = (field ++ part) ∷ parts

-- what a text reads as, after these fields
abbrev read_as : List (List ℕ) → List ℕ → List ℕ → Option Read
read_as fields field rest = Some (fields ++ prepend field (cut_at_commas rest), StartRecord, [])

-- what a step does, and then the rest
abbrev next_by : State × Action → List (List ℕ) → List ℕ → ℕ → List ℕ → Option Read
next_by moved fields field byte rest =
    cond (is_end moved.1) (Some (fields_after moved.1 fields field, moved.0, rest))
    (next_record default_config moved.0 (fields_after moved.1 fields field) (field_after moved.1 byte field) rest)

prepend_nothing : (parts : List (List ℕ)) (part : List ℕ) → prepend [] (part ∷ parts) ≡ part ∷ parts
prepend_nothing parts part = refl

onto_byte : (field : List ℕ) (byte : ℕ) (parts : List (List ℕ))
    → prepend (field ++ byte ∷ []) parts ≡ prepend field (onto_first byte parts)
onto_byte field byte [] = refl
onto_byte field byte (part ∷ parts) = ap (λ text. text ∷ parts) (append_assoc field (byte ∷ []) part)

-- a text cut at its commas has a part
begun : (text : List ℕ) → prepend [] (cut_at_commas text) ≡ cut_at_commas text
begun [] = refl
begun (byte ∷ rest) = begun_by (byte == 44) byte (cut_at_commas rest) where
  begun_by : (comma : Bool) (byte : ℕ) (parts : List (List ℕ))
      → prepend [] (cond comma ([] ∷ parts) (onto_first byte parts)) ≡ cond comma ([] ∷ parts) (onto_first byte parts)
  begun_by true byte parts = refl
  begun_by false byte [] = refl
  begun_by false byte (part ∷ parts) = refl

-- one byte, by whether it is a comma
after_byte : (comma : Bool) (fields : List (List ℕ)) (field : List ℕ) (byte : ℕ) (rest : List ℕ)
    → next_record default_config StartField (fields ++ field ∷ []) [] rest ≡ read_as (fields ++ field ∷ []) [] rest
    → next_record default_config InField fields (field ++ byte ∷ []) rest ≡ read_as fields (field ++ byte ∷ []) rest
    → next_by (plain_step comma) fields field byte rest
    ≡ Some (fields ++ prepend field (cond comma ([] ∷ cut_at_commas rest) (onto_first byte (cut_at_commas rest))), StartRecord, [])
unfolding next_record
after_byte true fields field byte rest begins goes =
    begins ∙ ap (λ all. Some (all, StartRecord, []))
    (ap (λ parts. (fields ++ field ∷ []) ++ parts) (begun rest)
    ∙ append_assoc fields (field ∷ []) (cut_at_commas rest)
    ∙ ap (λ first. fields ++ first ∷ cut_at_commas rest) (sym (append-nil field)))
after_byte false fields field byte rest begins goes =
    goes ∙ ap (λ parts. Some (fields ++ parts, StartRecord, [])) (onto_byte field byte (cut_at_commas rest))

-- both tests of a list that begins with a plain byte
first_plain : (byte : ℕ) (rest : List ℕ) → list_all is_plain (byte ∷ rest) ≡ true → is_plain byte ≡ true
first_plain byte rest all = first_by (is_plain byte) (list_all is_plain rest) all where
  first_by : (a b : Bool) → a && b ≡ true → a ≡ true
  first_by true b h = refl
  first_by false b h = h

rest_plain : (byte : ℕ) (rest : List ℕ) → list_all is_plain (byte ∷ rest) ≡ true → list_all is_plain rest ≡ true
rest_plain byte rest all = rest_by (is_plain byte) (list_all is_plain rest) all where
  rest_by : (a b : Bool) → a && b ≡ true → b ≡ true
  rest_by true b h = h
  rest_by false b h = absurd (false≢true h)

-- whether a field was begun
abbrev field_state : Bool → State
field_state true = InField
field_state false = StartField

field_step : (begun : Bool) (byte : ℕ) → is_plain byte ≡ true → step default_config (field_state begun) byte ≡ plain_step (byte == 44)
field_step true byte plain = in_field_step byte plain
field_step false byte plain = start_field_step byte plain

field_ends : (begun : Bool) → ends_at_end (field_state begun) ≡ true
field_ends true = refl
field_ends false = refl

read_plain : (begun : Bool) (fields : List (List ℕ)) (field rest : List ℕ) → list_all is_plain rest ≡ true
    → next_record default_config (field_state begun) fields field rest ≡ read_as fields field rest
unfolding next_record
read_plain true fields field [] all = ap (λ last. Some (fields ++ last ∷ [], StartRecord, [])) (sym (append-nil field))
read_plain false fields field [] all = ap (λ last. Some (fields ++ last ∷ [], StartRecord, [])) (sym (append-nil field))
read_plain begun fields field (byte ∷ rest) all =
    ap (λ moved. next_by moved fields field byte rest) (field_step begun byte (first_plain byte rest all))
    ∙ after_byte (byte == 44) fields field byte rest
    (read_plain false (fields ++ field ∷ []) [] rest (rest_plain byte rest all))
    (read_plain true fields (field ++ byte ∷ []) rest (rest_plain byte rest all))

-- a line that begins otherwise than a byte order mark keeps its bytes
kept_by : (mark second third : Bool) (a b c : ℕ) (rest : List ℕ) → not mark ≡ true
    → cond (mark && second && third) rest (a ∷ b ∷ c ∷ rest) ≡ a ∷ b ∷ c ∷ rest
kept_by true second third a b c rest other = absurd (false≢true other)
kept_by false second third a b c rest other = refl

kept : (byte : ℕ) (rest : List ℕ) → not (byte == 239) ≡ true → strip_bom (byte ∷ rest) ≡ byte ∷ rest
unfolding strip_bom
kept byte [] other = refl
kept byte (b ∷ []) other = refl
kept byte (b ∷ c ∷ rest) other = kept_by (byte == 239) (b == 187) (c == 191) byte b c rest other

read_line : (byte : ℕ) (rest : List ℕ) → list_all is_plain (byte ∷ rest) ≡ true
    → next_record default_config StartRecord [] [] (byte ∷ rest) ≡ read_as [] [] (byte ∷ rest)
unfolding next_record
read_line byte rest all =
    ap (λ moved. next_by moved [] [] byte rest) (start_record_step byte (first_plain byte rest all))
    ∙ after_byte (byte == 44) [] [] byte rest
    (read_plain false ([] ∷ []) [] rest (rest_plain byte rest all))
    (read_plain true [] (byte ∷ []) rest (rest_plain byte rest all))

pub plain_line_cut : (line : List ℕ) → IsTrue (is_plain_line line) → record_of line ≡ Some (cut_at_commas line)
unfolding record_of
plain_line_cut [] plain = absurd (false≢true plain)
plain_line_cut (byte ∷ rest) plain =
    ap (λ text. option_map (λ read. read.0) (next_record default_config StartRecord [] [] text))
    (kept byte rest (left_of (not (byte == 239)) (list_all is_plain (byte ∷ rest)) plain))
    ∙ ap (option_map (λ read. read.0)) (read_line byte rest (right_of (not (byte == 239)) (list_all is_plain (byte ∷ rest)) plain))
    ∙ ap Some (begun (byte ∷ rest))
  where
    left_of : (a b : Bool) → a && b ≡ true → a ≡ true
    left_of true b h = refl
    left_of false b h = h

    right_of : (a b : Bool) → a && b ≡ true → b ≡ true
    right_of true b h = h
    right_of false b h = absurd (false≢true h)
