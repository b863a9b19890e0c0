-- Inputs that are filled in column by column are those of the row.
use Rattle.std.proofs.Common.{◌≡◌, ◌≢◌, ℕ, ◌<◌, Bool, true, false, cond, ◌||◌, ◌==◌, List, [], ◌∷◌, length, get_or, set, map, Option, Some, None, Result, Ok, Err, refl, ap, sym, ◌∙◌, arith, replicate, All, option_and_then}
use Rattle.std.specs.List.{range_with_len}
use Rattle.std.proofs.lemmas.List.{get_or-set_same, get_or-set_other, length-set, length-replicate, get_or-replicate}
use Rattle.std.proofs.lemmas.List.FromFn.{fill_by_all, length-map-range_with_len, get_or-map-range_with_len}
use Rattle.std.proofs.lemmas.List.Elements.{All-tail}
use Rattle.std.proofs.lemmas.Bool.Decides.{nat_tests}
use Rattle.exact_fraction.specs.Number.{Rational}
use Rattle.num_text.specs.declared.error.NumberFault.{NumberFault}
use Rattle.trace_csv.specs.Columns.{Columns, gives, is_given, has_duplicate}
use Rattle.trace_csv.specs.Fields.{field_input, is_fault, input_given}
use Rattle.trace_csv.specs.Rows.{field_under, input_in, inputs_of, has_bad}
use Rattle.trace_csv.specs.internal.Filling.{Within, set_read, filled}

-- what the field under a column says, over what stands there
abbrev over_by : Option (List ℕ) → Option Rational → Option Rational
over_by None before = before
over_by (Some field) before = input_given (field_input field)

abbrev over : List (Option ℕ) → List (List ℕ) → List (Option Rational) → ℕ → Option Rational
over columns fields inputs place = over_by (field_under place columns fields) (get_or inputs place None)

abbrev unless_bad : Bool → List (Option Rational) → Option (List (Option Rational))
unless_bad bad inputs = cond bad None (Some inputs)

abbrev all_over : ℕ → List (Option ℕ) → List (List ℕ) → List (Option Rational) → List (Option Rational)
all_over n columns fields inputs = map (over columns fields inputs) (range_with_len 0 n)

-- an input that no column gives has no field
no_field : (place : ℕ) (columns : List (Option ℕ)) (fields : List (List ℕ)) → is_given columns place ≡ false → field_under place columns fields ≡ None
no_field place [] fields none = refl
no_field place (column ∷ columns) [] none = refl
no_field place (column ∷ columns) (field ∷ fields) none =
    by_test (gives place column) none (no_field place columns fields)
  where
    by_test : (given : Bool) → given || is_given columns place ≡ false
        → (is_given columns place ≡ false → field_under place columns fields ≡ None)
        → cond given (Some field) (field_under place columns fields) ≡ None
    by_test true h again = cc
    by_test false h again = again h

-- the inputs as they are, where there is no column
unchanged : (n : ℕ) (inputs : List (Option Rational)) → length inputs ≡ n → inputs ≡ map (λ place. get_or inputs place None) (range_with_len 0 n)
unchanged n inputs long = fill_by_all (λ place. get_or inputs place None) inputs n None long (λ k below. refl)

-- one more input, below the columns behind it
over_first : (columns : List (Option ℕ)) (field : List ℕ) (fields : List (List ℕ)) (inputs : List (Option Rational)) (place k : ℕ) (input : Option Rational) (same : Bool)
    → place < length inputs → is_given columns place ≡ false → field_input field ≡ Ok input → same ≡ (k == place)
    → over columns fields (set inputs place input) k ≡ over_by (cond same (Some field) (field_under k columns fields)) (get_or inputs k None)
over_first columns field fields inputs place k input true within apart is test =
    let here : k ≡ place = grind (arith, nat_tests) in
    ap (λ at. over columns fields (set inputs place input) at) here
    ∙ ap (λ found. over_by found (get_or (set inputs place input) place None)) (no_field place columns fields apart)
    ∙ get_or-set_same inputs place input None within
    ∙ sym (ap input_given is)
over_first columns field fields inputs place k input false within apart is test =
    let other : k ≢ place = grind (arith, nat_tests) in
    ap (over_by (field_under k columns fields)) (get_or-set_other inputs place k input None other)

all_over_first : (columns : List (Option ℕ)) (field : List ℕ) (fields : List (List ℕ)) (inputs : List (Option Rational)) (n place : ℕ) (input : Option Rational)
    → length inputs ≡ n → place < n → is_given columns place ≡ false → field_input field ≡ Ok input
    → all_over n columns fields (set inputs place input) ≡ all_over n (Some place ∷ columns) (field ∷ fields) inputs
all_over_first columns field fields inputs n place input long within apart is =
    fill_by_all (over (Some place ∷ columns) (field ∷ fields) inputs) (all_over n columns fields (set inputs place input)) n None
    (length-map-range_with_len (over columns fields (set inputs place input)) 0 n)
    (λ k below.
    get_or-map-range_with_len (over columns fields (set inputs place input)) 0 n k k None below (omega arith)
    ∙ over_first columns field fields inputs place k input (k == place) (rw long within) apart is refl)

left_false : (a b : Bool) → a || b ≡ false → a ≡ false
left_false true b h = h
left_false false b h = refl

right_false : (a b : Bool) → a || b ≡ false → b ≡ false
right_false true b h = cc
right_false false b h = h

filled_is : (n : ℕ) (columns : List (Option ℕ)) (fields : List (List ℕ)) (inputs : List (Option Rational))
    → length inputs ≡ n → All (Within n) columns → has_duplicate columns ≡ false
    → filled columns fields inputs ≡ unless_bad (has_bad columns fields) (all_over n columns fields inputs)
unfolding filled has_bad
filled_is n [] fields inputs long within single = ap Some (unchanged n inputs long)
filled_is n (column ∷ columns) [] inputs long within single = ap Some (unchanged n inputs long)
filled_is n (None ∷ columns) (field ∷ fields) inputs long within single =
    filled_is n columns fields inputs long (All-tail (Within n) None columns within) single
filled_is n (Some place ∷ columns) (field ∷ fields) inputs long within single =
    by_reading (field_input field) refl
    (λ xs long. filled_is n columns fields xs long (All-tail (Within n) (Some place) columns within)
    (right_false (is_given columns place) (has_duplicate columns) single))
  where
    below : place < n
    below = within 0 (Some place) (omega arith)

    apart : is_given columns place ≡ false
    apart = left_false (is_given columns place) (has_duplicate columns) single

    by_reading : (read : Result (Option Rational) NumberFault) → field_input field ≡ read
        → ((xs : List (Option Rational)) → length xs ≡ n → filled columns fields xs ≡ unless_bad (has_bad columns fields) (all_over n columns fields xs))
        → option_and_then (filled columns fields) (set_read place read inputs)
        ≡ unless_bad (is_fault read || has_bad columns fields) (all_over n (Some place ∷ columns) (field ∷ fields) inputs)
    by_reading (Err fault) is again = refl
    by_reading (Ok input) is again =
        again (set inputs place input) (length-set inputs place input ∙ long)
        ∙ ap (unless_bad (has_bad columns fields)) (all_over_first columns field fields inputs n place input long below apart is)

-- the inputs of a row, over missing ones
from_missing : (n : ℕ) (found : Option (List ℕ)) (k : ℕ) → k < n → over_by found (get_or (replicate n None) k None) ≡ input_in found
from_missing n None k below = get_or-replicate n k None None below
from_missing n (Some field) k below = refl

pub filled_row : (header : Columns) (fields : List (List ℕ)) (n : ℕ)
    → n ≡ header.inputs → All (Within header.inputs) header.columns → has_duplicate header.columns ≡ false
    → filled header.columns fields (replicate n None) ≡ cond (has_bad header.columns fields) None (Some (inputs_of header fields))
unfolding inputs_of
filled_row header fields n size within single =
    ap (λ count. filled header.columns fields (replicate count None)) size
    ∙ filled_is header.inputs header.columns fields (replicate header.inputs None) (length-replicate header.inputs None) within single
    ∙ ap (unless_bad (has_bad header.columns fields))
    (fill_by_all (λ place. input_in (field_under place header.columns fields))
    (all_over header.inputs header.columns fields (replicate header.inputs None)) header.inputs None
    (length-map-range_with_len (over header.columns fields (replicate header.inputs None)) 0 header.inputs)
    (λ k below.
    get_or-map-range_with_len (over header.columns fields (replicate header.inputs None)) 0 header.inputs k k None below (omega arith)
    ∙ from_missing header.inputs (field_under k header.columns fields) k below))
