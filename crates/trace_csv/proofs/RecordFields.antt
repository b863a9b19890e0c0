-- The fields of a record by their places.
use Rattle.std.proofs.Common.{◌≡◌, ℕ, zero, suc, ◌+◌, List, [], ◌∷◌, ◌++◌, Some, None, refl, ap, sym, ◌∙◌, drop, map, add-one, append_assoc, append-nil, length, arith}
use Rattle.csv.specs.Records.{field_at}
use Rattle.trace_csv.specs.Fields.{first_field, further_fields}

pub first_some : (fields : List (List ℕ)) (field : List ℕ) → Some field ≡ field_at fields 0 → field ≡ first_field fields
unfolding field_at
first_some [] field is = cc
first_some (first ∷ more) field is = cc

pub first_none : (fields : List (List ℕ)) → None ≡ field_at fields 0 → [] ≡ first_field fields
unfolding field_at
first_none [] is = refl
first_none (first ∷ more) is = cc

-- the fields from a place on, with the field there
from_field : (fields : List (List ℕ)) (at : ℕ) (field : List ℕ) → field_at fields at ≡ Some field → drop at fields ≡ field ∷ drop (suc at) fields
unfolding field_at
from_field [] at field is = cc
from_field (first ∷ more) zero field is = cc
from_field (first ∷ more) (suc at) field is = from_field more at field is

no_fields : (fields : List (List ℕ)) (at : ℕ) → field_at fields at ≡ None → drop at fields ≡ []
unfolding field_at
no_fields [] zero is = refl
no_fields [] (suc at) is = refl
no_fields (first ∷ more) zero is = cc
no_fields (first ∷ more) (suc at) is = no_fields more at is

pub from_place : (fields : List (List ℕ)) (at : ℕ) (field : List ℕ) → Some field ≡ field_at fields at → drop at fields ≡ field ∷ drop (at + 1) fields
from_place fields at field is = rw add-one (from_field fields at field (sym is))

pub past_end : (fields : List (List ℕ)) (at : ℕ) → None ≡ field_at fields at → drop at fields ≡ []
past_end fields at is = no_fields fields at (sym is)

pub behind_first : (fields : List (List ℕ)) → further_fields fields ≡ drop 1 fields
behind_first [] = refl
behind_first (first ∷ more) = refl

-- what is made of each field behind the first, one field on and at the end
pub made_more : {A : Type 0} (f : List ℕ → A) (fields : List (List ℕ)) (at : ℕ) (field : List ℕ) (made all : List A)
    → Some field ≡ field_at fields at → made ++ map f (drop at fields) ≡ all
    → (made ++ f field ∷ []) ++ map f (drop (at + 1) fields) ≡ all
made_more f fields at field made all is so_far =
    append_assoc made (f field ∷ []) (map f (drop (at + 1) fields))
    ∙ sym (ap (λ rest. made ++ map f rest) (from_place fields at field is)) ∙ so_far

pub made_all : {A : Type 0} (f : List ℕ → A) (fields : List (List ℕ)) (at : ℕ) (made all : List A)
    → None ≡ field_at fields at → made ++ map f (drop at fields) ≡ all → made ≡ all
made_all f fields at made all is so_far =
    sym (append-nil made) ∙ sym (ap (λ rest. made ++ map f rest) (past_end fields at is)) ∙ so_far

-- a record of one field more than some number has a first field
pub has_first : (fields : List (List ℕ)) (first : List ℕ) (count : ℕ) → first ≡ first_field fields → length fields ≡ 1 + count
    → fields ≡ first ∷ further_fields fields
has_first [] first count is long = absurd (omega arith)
has_first (field ∷ fields) first count is long = ap (λ front. front ∷ fields) (sym is)
