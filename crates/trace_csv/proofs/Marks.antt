-- The marks of the inputs that columns give.
use Rattle.std.proofs.Common.{◌≡◌, ◌≢◌, ℕ, suc, ◌+◌, ◌<◌, Bool, true, false, not, cond, ◌||◌, ◌==◌, List, [], ◌∷◌, length, get_or, set, drop, Option, Some, None, refl, ap, sym, ◌∙◌, arith, replicate, All}
use Rattle.std.specs.List.{list_all, range_with_len}
use Rattle.std.proofs.lemmas.List.{drop_more, get_or-set_same, get_or-set_other, at_drop_all, length-set, length-replicate, get_or-replicate, get_or_default}
use Rattle.std.proofs.lemmas.List.FromFn.{fill_by_all, length-map-range_with_len, get_or-map-range_with_len}
use Rattle.std.proofs.lemmas.List.Folds.{list_all-map}
use Rattle.std.proofs.lemmas.Bool.Decides.{nat_tests}
use Rattle.trace_csv.specs.Columns.{is_given, is_repeated, has_duplicate, are_given}
use Rattle.trace_csv.specs.internal.Filling.{Within}
use Rattle.trace_csv.specs.internal.Marking.{marks, marked, with_mark, fault_of_columns}
use Rattle.trace_csv.specs.declared.fault.TraceCause.TheVariants.{DuplicateColumn, MissingColumn}

-- the mark of an input
mark_at : (columns : List (Option ℕ)) (n place : ℕ) (d : Bool) → place < n → get_or (marks columns n) place d ≡ is_given columns place
unfolding marks
mark_at columns n place d within = get_or-map-range_with_len (is_given columns) 0 n place place d within (omega arith)

long : (columns : List (Option ℕ)) (n : ℕ) → length (marks columns n) ≡ n
unfolding marks
long columns n = length-map-range_with_len (is_given columns) 0 n

-- whether a column's input was marked, and the marks with it
marked_is : (columns : List (Option ℕ)) (n : ℕ) (column : Option ℕ) → Within n column → marked (marks columns n) column ≡ is_repeated column columns
marked_is columns n None within = refl
marked_is columns n (Some place) within = mark_at columns n place false within

one_place : (columns : List (Option ℕ)) (n place k : ℕ) (d same : Bool) → place < n → k < n → same ≡ (k == place)
    → get_or (set (marks columns n) place true) k d ≡ (same || is_given columns k)
one_place columns n place k d true place_within k_within is =
    let here : k ≡ place = grind (arith, nat_tests) in
    ap (λ at. get_or (set (marks columns n) place true) at d) here
    ∙ get_or-set_same (marks columns n) place true d (rw (long columns n) place_within)
one_place columns n place k d false place_within k_within is =
    let other : k ≢ place = grind (arith, nat_tests) in
    get_or-set_other (marks columns n) place k true d other ∙ mark_at columns n k d k_within

with_mark_is : (columns : List (Option ℕ)) (n : ℕ) (column : Option ℕ) → Within n column → with_mark (marks columns n) column ≡ marks (column ∷ columns) n
unfolding marks
with_mark_is columns n None within = refl
with_mark_is columns n (Some place) within =
    fill_by_all (is_given (Some place ∷ columns)) (set (marks columns n) place true) n false
    (length-set (marks columns n) place true ∙ long columns n)
    (λ k below. one_place columns n place k false (k == place) within below refl)

the_same : (columns : List (Option ℕ)) (at : ℕ) (d e : Option ℕ) → at < length columns → get_or columns at e ≡ get_or columns at d
the_same columns at d e within = get_or_default columns at e d within

pub taken : (columns : List (Option ℕ)) (at after : ℕ) (column : Option ℕ) → after ≡ suc at → at < length columns
    → get_or columns at column ≡ column → drop at columns ≡ column ∷ drop after columns
taken columns at after column next within is =
    drop_more columns at column within
    ∙ ap (λ first. first ∷ drop (at + 1) columns) is
    ∙ ap (λ n. column ∷ drop n columns) (next_place at after next)
  where
    next_place : (at after : ℕ) → after ≡ suc at → at + 1 ≡ after
    next_place at after next = omega arith

-- one more column, before those that were marked
pub marks_after : (columns : List (Option ℕ)) (at after n : ℕ) (d : Option ℕ) (given new : List Bool) → after ≡ suc at → at < length columns
    → All (Within n) columns → given ≡ marks (drop after columns) n → new ≡ with_mark given (get_or columns at d)
    → new ≡ marks (drop at columns) n
marks_after columns at after n d given new next within all before is =
    is ∙ ap (λ list. with_mark list (get_or columns at d)) before
    ∙ with_mark_is (drop after columns) n (get_or columns at d) (all at d within)
    ∙ ap (λ list. marks list n) (sym (taken columns at after (get_or columns at d) next within (the_same columns at d (get_or columns at d) within)))

pub twice_after : (columns : List (Option ℕ)) (at after n : ℕ) (d : Option ℕ) (given : List Bool) (old twice now : Bool) → after ≡ suc at → at < length columns
    → All (Within n) columns → given ≡ marks (drop after columns) n → old ≡ marked given (get_or columns at d)
    → now ≡ (old || twice) → twice ≡ has_duplicate (drop after columns)
    → now ≡ has_duplicate (drop at columns)
twice_after columns at after n d given old twice now next within all before was is so_far =
    is ∙ ap (λ test. test || twice) (was ∙ ap (λ list. marked list (get_or columns at d)) before
    ∙ marked_is (drop after columns) n (get_or columns at d) (all at d within))
    ∙ ap (λ test. is_repeated (get_or columns at d) (drop after columns) || test) so_far
    ∙ ap has_duplicate (sym (taken columns at after (get_or columns at d) next within (the_same columns at d (get_or columns at d) within)))

pub marks_long : (columns : List (Option ℕ)) (at n : ℕ) (given : List Bool) → given ≡ marks (drop at columns) n → length given ≡ n
marks_long columns at n given is = ap length is ∙ long (drop at columns) n

pub none_twice : (columns : List (Option ℕ)) → false ≡ has_duplicate (drop (length columns) columns)
none_twice columns = sym (at_drop_all has_duplicate columns (length columns) (omega arith))

-- no input is marked at first
pub none_marked : (n : ℕ) → replicate n false ≡ marks [] n
unfolding marks
none_marked n = fill_by_all (is_given []) (replicate n false) n false (length-replicate n false) (λ k below. get_or-replicate n k false false below)

-- whether all are marked
pub all_marked : (columns : List (Option ℕ)) (n : ℕ) → list_all (λ mark. mark) (marks columns n) ≡ are_given columns n
unfolding marks
all_marked columns n = list_all-map (λ mark. mark) (is_given columns) (range_with_len 0 n)

pub unmarked : (columns : List (Option ℕ)) (n : ℕ) (given : List Bool) → given ≡ replicate n false → given ≡ marks (drop (length columns) columns) n
unmarked columns n given is =
    is ∙ none_marked n ∙ sym (at_drop_all (λ list. marks list n) columns (length columns) (omega arith))

fault_by : (twice all : Bool) → false ≡ twice → cond all None (Some MissingColumn) ≡ cond twice (Some DuplicateColumn) (cond (not all) (Some MissingColumn) None)
fault_by true all single = cc
fault_by false true single = refl
fault_by false false single = refl

-- columns of which none gives an input again
pub fault_marked : (columns : List (Option ℕ)) (n : ℕ) (given : List Bool) (all : Bool) → false ≡ has_duplicate columns → given ≡ marks columns n
    → all ≡ list_all (λ mark. mark) given → cond all None (Some MissingColumn) ≡ fault_of_columns columns n
fault_marked columns n given all single is told =
    ap (λ test. cond test None (Some MissingColumn)) (told ∙ ap (list_all (λ mark. mark)) is ∙ all_marked columns n)
    ∙ fault_by (has_duplicate columns) (are_given columns n) single
