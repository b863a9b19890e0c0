-- One column more of a row that is filled in.
use Rattle.std.proofs.Common.{◌≡◌, ℕ, ◌+◌, ◌<◌, ◌≤◌, List, [], ◌∷◌, length, get_or, drop, Option, Some, None, refl, ap, sym, ◌∙◌, option_and_then}
use Rattle.std.proofs.lemmas.List.{drop_more, at_drop_all}
use Rattle.exact_fraction.specs.Number.{Rational}
use Rattle.trace_csv.specs.internal.Filling.{put_field, filled}

from_column : (columns : List (Option ℕ)) (at : ℕ) (d : Option ℕ) (field : List ℕ) (rest : List (List ℕ)) (inputs : List (Option Rational))
    → at < length columns
    → filled (drop at columns) (field ∷ rest) inputs
    ≡ option_and_then (filled (drop (at + 1) columns) rest) (put_field (get_or columns at d) field inputs)
unfolding filled
from_column columns at d field rest inputs within = ap (λ list. filled list (field ∷ rest) inputs) (drop_more columns at d within)

pub column_filled : (columns : List (Option ℕ)) (at : ℕ) (d : Option ℕ) (fields : List (List ℕ)) (field : List ℕ) (rest : List (List ℕ)) (inputs new : List (Option Rational))
    → at < length columns → fields ≡ field ∷ rest → Some new ≡ put_field (get_or columns at d) field inputs
    → filled (drop (at + 1) columns) rest new ≡ filled (drop at columns) fields inputs
column_filled columns at d fields field rest inputs new within cut put =
    ap (option_and_then (filled (drop (at + 1) columns) rest)) put
    ∙ sym (from_column columns at d field rest inputs within)
    ∙ ap (λ all. filled (drop at columns) all inputs) (sym cut)

pub column_bad : (columns : List (Option ℕ)) (at : ℕ) (d : Option ℕ) (fields : List (List ℕ)) (field : List ℕ) (rest : List (List ℕ)) (inputs : List (Option Rational))
    → at < length columns → fields ≡ field ∷ rest → None ≡ put_field (get_or columns at d) field inputs
    → None ≡ filled (drop at columns) fields inputs
column_bad columns at d fields field rest inputs within cut put =
    ap (option_and_then (filled (drop (at + 1) columns) rest)) put
    ∙ sym (from_column columns at d field rest inputs within)
    ∙ ap (λ all. filled (drop at columns) all inputs) (sym cut)

-- no further column, and no further field
pub columns_end : (columns : List (Option ℕ)) (at : ℕ) (fields : List (List ℕ)) (inputs : List (Option Rational))
    → length columns ≤ at → Some inputs ≡ filled (drop at columns) fields inputs
unfolding filled
columns_end columns at fields inputs end = sym (at_drop_all (λ list. filled list fields inputs) columns at end)

no_more : (columns : List (Option ℕ)) (inputs : List (Option Rational)) → Some inputs ≡ filled columns [] inputs
unfolding filled
no_more [] inputs = refl
no_more (column ∷ columns) inputs = refl

pub fields_end : (columns : List (Option ℕ)) (at : ℕ) (fields : List (List ℕ)) (inputs : List (Option Rational))
    → fields ≡ [] → Some inputs ≡ filled (drop at columns) fields inputs
fields_end columns at fields inputs none =
    no_more (drop at columns) inputs ∙ ap (λ all. filled (drop at columns) all inputs) (sym none)
