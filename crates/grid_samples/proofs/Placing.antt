-- Numbers that are put at the places of their keys.
use Rattle.std.proofs.Common.{◌≡◌, ℕ, zero as nothing, suc, ◌+◌, ◌<◌, ◌≤◌, Bool, true, false, Option, Some, None, Err, List, [], ◌∷◌, map, length, get_or, drop, replicate, set, cond, ltb, refl, sym, ap, ap₂, subst, ◌∙◌, arith}
use Rattle.std.proofs.lemmas.Bool.Decides.{nat_tests}
use Rattle.std.proofs.lemmas.Cmp.{nat_list_cmp_total}
use Rattle.std.proofs.lemmas.List.{drop_more, drop_all}
use Rattle.std.proofs.lemmas.List.Elements.{recursion_from_All}
use Rattle.std.proofs.lemmas.List.Sorted.{IsNonDecreasingBy-from_all_adjacent}
use Rattle.std.proofs.lemmas.Map.Text.{is_eq-slice_cmp}
use Rattle.std.proofs.lemmas.Option.{none-some, same_Some, slice_get-get_or}
use Rattle.std.specs.Cmp.{IsTotalOrder, on_total}
use Rattle.std.specs.List.{AllByRecursion, AllWithin, HoldsAt, filter}
use Rattle.std.specs.List.Sorted.{IsBinarySearchResult, IsNonDecreasingBy}
use Rattle.std.specs.Ordering.{is_eq, ordering_index, ordering_reverse}
use Rattle.std.specs.Prelude.{slice_get}
use Rattle.std.specs.declared.cmp.Ordering.{Ordering}
use Rattle.std.specs.declared.cmp.Ordering.TheVariants.{Less, Equal, Greater}
use Rattle.exact_fraction.specs.Number.{Rational}
use Rattle.rule_types.specs.declared.key.Key.{Key}
use Rattle.rule_types.specs.KeyOrder.{IsInKeyOrder, key_cmp, key_place}
use Rattle.rule_types.proofs.PublicLaws.{equal_keys-key}
use Rattle.verdict_meaning.specs.Grids.{number_of_key}
use Rattle.verdict_meaning.specs.Reaches.{same_key}
use Rattle.grid_samples.proofs.KeyNumbers.{at_first, past_first, same_itself}
use Rattle.grid_samples.proofs.KeyOrders.{before_all, IsBefore, not_same, Rise}

abbrev Numbers : Type 0
Numbers = List (Key × Rational)

abbrev pub of_keys : List Key → Numbers → List (Option Rational)
of_keys keys numbers = map (λ key. number_of_key key numbers) keys

-- ---- keys in key order rise
later_keys : (key : Key) (keys : List Key) → IsInKeyOrder (key ∷ keys) → IsInKeyOrder keys
later_keys key keys h = λ k d below. (let next : suc k + 1 ≡ suc (k + 1) = omega arith in
    subst (λ m. key_cmp (get_or (key ∷ keys) (suc k) d) (get_or (key ∷ keys) m d) ≡ Less) next
    (h (suc k) d (omega (arith, below))))

rise_of : (keys : List Key) → IsInKeyOrder keys → Rise keys
unfolding Rise
rise_of [] h = tt
rise_of (key ∷ []) h = (tt, tt)
rise_of (key ∷ next ∷ more) h =
    let later = rise_of (next ∷ more) (later_keys key (next ∷ more) h) in
    let first : IsBefore key next = h 0 key (omega arith) in
    ((first, before_all key next more first later.0), later)

-- ---- a number that is put at the place of its key
before_not_same : (key other : Key) → IsBefore key other → same_key key other ≡ false
before_not_same key other less =
    sym (is_eq-slice_cmp (key_place key) (key_place other)) ∙ ap is_eq less

others_same : (number : Key × Rational) (rest : Numbers) (keys : List Key)
    → AllByRecursion (λ key. same_key key number.0 ≡ false) keys
    → of_keys keys rest ≡ of_keys keys (number ∷ rest)
others_same number rest [] h = refl
others_same number rest (key ∷ keys) h =
    ap₂ (λ o more. o ∷ more) (sym (past_first key number rest h.0))
    (others_same number rest keys h.1)

none_after : (key : Key) (number : Key × Rational) (keys : List Key) → key ≡ number.0
    → AllByRecursion (IsBefore key) keys
    → AllByRecursion (λ other. same_key other number.0 ≡ false) keys
none_after key number [] is h = tt
none_after key number (other ∷ keys) is h = (
  subst (λ one. same_key other one ≡ false) is (not_same key other h.0),
  none_after key number keys is h.1,
)

got_before : (key other : Key) (keys : List Key) (k : ℕ) → AllByRecursion (IsBefore key) keys
    → slice_get keys k ≡ Some other → IsBefore key other
got_before key other [] k h is = absurd (none-some other is)
got_before key other (first ∷ keys) nothing h is =
    subst (IsBefore key) (same_Some first other is) h.0
got_before key other (first ∷ keys) (suc k) h is = got_before key other keys k h.1 is

set_there : (number : Key × Rational) (rest : Numbers) (keys : List Key) (k : ℕ) → Rise keys
    → slice_get keys k ≡ Some number.0
    → set (of_keys keys rest) k (Some number.1) ≡ of_keys keys (number ∷ rest)
unfolding Rise
set_there number rest [] k h is = absurd (none-some number.0 is)
set_there number rest (key ∷ keys) nothing h is =
    let one : key ≡ number.0 = same_Some key number.0 is in
    ap₂ (λ o more. o ∷ more)
    (sym (at_first key number rest (subst (λ other. same_key key other ≡ true) one (same_itself key))))
    (others_same number rest keys (none_after key number keys one h.0))
set_there number rest (key ∷ keys) (suc k) h is =
    ap₂ (λ o more. o ∷ more)
    (sym (past_first key number rest
    (before_not_same key number.0 (got_before key number.0 keys k h.0 is))))
    (set_there number rest keys k h.1 is)

-- ---- the search by halving
key_total : IsTotalOrder key_cmp
key_total = on_total key_place nat_list_cmp_total

at_most_two : (o : Ordering) → ordering_index o ≤ 2
at_most_two Less = omega arith
at_most_two Equal = omega arith
at_most_two Greater = omega arith

before_equal : (key a b : Key) → key_cmp a b ≡ Less → key_cmp b key ≡ Equal
    → key_cmp a key ≡ Less
before_equal key a b less equal =
    let turned : key_cmp b a ≡ Greater = key_total.antisymm b a ∙ ap ordering_reverse less in
    let moved : key_cmp b a ≡ key_cmp key a = key_total.congr b key a equal in
    key_total.antisymm a key ∙ ap ordering_reverse (sym moved ∙ turned)

index_rises : (key a b : Key) → key_cmp a b ≡ Less
    → ordering_index (key_cmp a key) ≤ ordering_index (key_cmp b key)
index_rises key a b less = by_order (key_cmp b key) refl
  where
    by_order : (o : Ordering) → key_cmp b key ≡ o
        → ordering_index (key_cmp a key) ≤ ordering_index o
    by_order Less is =
        let e : key_cmp a key ≡ Less = key_total.trans a b key less is in
        rw e (omega arith)
    by_order Equal is =
        let e : key_cmp a key ≡ Less = before_equal key a b less is in
        rw e (omega arith)
    by_order Greater is = at_most_two (key_cmp a key)

indexes_rise : (keys : List Key) (key : Key) → IsInKeyOrder keys
    → IsNonDecreasingBy (λ other. ordering_index (key_cmp other key)) keys
indexes_rise keys key order =
    IsNonDecreasingBy-from_all_adjacent (λ other. ordering_index (key_cmp other key)) keys
    (λ k d below. index_rises key (get_or keys k d) (get_or keys (k + 1) d) (order k d below))

same_by : (key other : Key) (o : Ordering) → key_cmp other key ≡ o → same_key other key ≡ is_eq o
same_by key other o is =
    sym (is_eq-slice_cmp (key_place other) (key_place key)) ∙ ap is_eq is

pub found_at : (keys : List Key) (key : Key) (k : ℕ) → k < length keys
    → HoldsAt (λ other. key_cmp other key ≡ Equal) keys k → slice_get keys k ≡ Some key
found_at keys key k within h =
    slice_get-get_or keys k key within
    ∙ ap Some
    ((equal_keys-key (get_or keys k key) key).0 (same_by key (get_or keys k key) Equal (h key)))

none_at : (keys : List Key) (key : Key) (i : ℕ) → IsInKeyOrder keys
    → IsBinarySearchResult (λ other. key_cmp other key) keys (Err i)
    → AllByRecursion (λ other. same_key other key ≡ false) keys
none_at keys key i order result =
    recursion_from_All (λ other. same_key other key ≡ false) keys (λ j d within. each j d within)
  where
    parts : AllWithin (λ other. key_cmp other key ≡ Less) keys 0 i
        × AllWithin (λ other. key_cmp other key ≡ Greater) keys i (length keys)
    parts = result (indexes_rise keys key order)

    each : (j : ℕ) (d : Key) → j < length keys → same_key (get_or keys j d) key ≡ false
    each j d within = by_side (ltb j i) refl
      where
        by_side : (low : Bool) → ltb j i ≡ low → same_key (get_or keys j d) key ≡ false
        by_side true is =
            let less : j < i = grind (arith, nat_tests) in
            same_by key (get_or keys j d) Less (parts.0 j d (omega arith) less)
        by_side false is =
            let more : i ≤ j = grind (arith, nat_tests) in
            same_by key (get_or keys j d) Greater (parts.1 j d more within)

-- ---- the steps of the code
pub placed_there : (keys : List Key) (number : Key × Rational) (rest : Numbers) (k : ℕ)
    (old new : List (Option Rational)) → IsInKeyOrder keys → slice_get keys k ≡ Some number.0
    → new ≡ set old k (Some number.1) → old ≡ of_keys keys rest
    → new ≡ of_keys keys (number ∷ rest)
placed_there keys number rest k old new order is new_is old_is =
    new_is ∙ ap (λ l. set l k (Some number.1)) old_is
    ∙ set_there number rest keys k (rise_of keys order) is

pub placed_nowhere : (keys : List Key) (number : Key × Rational) (rest : Numbers) (i : ℕ)
    (list : List (Option Rational)) → IsInKeyOrder keys
    → IsBinarySearchResult (λ other. key_cmp other number.0) keys (Err i)
    → list ≡ of_keys keys rest → list ≡ of_keys keys (number ∷ rest)
placed_nowhere keys number rest i list order result is =
    is ∙ others_same number rest keys (none_at keys number.0 i order result)

none_of_keys : (keys : List Key) → replicate (length keys) None ≡ of_keys keys []
unfolding number_of_key
none_of_keys [] = refl
none_of_keys (key ∷ keys) = ap (λ more. None ∷ more) (none_of_keys keys)

pub none_placed : (keys : List Key) (numbers : Numbers) (list : List (Option Rational)) (n at : ℕ)
    → list ≡ replicate n None → n ≡ length keys → length numbers ≤ at
    → list ≡ of_keys keys (drop at numbers)
none_placed keys numbers list n at is long past =
    is ∙ ap (λ m. replicate m None) long ∙ none_of_keys keys
    ∙ ap (of_keys keys) (sym (drop_all at numbers past))

pub one_placed : (keys : List Key) (numbers : Numbers) (old new : List (Option Rational)) (at : ℕ)
    (number : Key × Rational) → at < length numbers → number ≡ get_or numbers at number
    → old ≡ of_keys keys (drop (at + 1) numbers)
    → ((rest : Numbers) → old ≡ of_keys keys rest → new ≡ of_keys keys (number ∷ rest))
    → new ≡ of_keys keys (drop at numbers)
one_placed keys numbers old new at number within is so_far step =
    step (drop (at + 1) numbers) so_far
    ∙ ap (λ one. of_keys keys (one ∷ drop (at + 1) numbers)) is
    ∙ ap (of_keys keys) (sym (drop_more numbers at number within))

-- ---- numbers of links
kept_by : (key : Key) (number : Key × Rational) (rest kept : Numbers) (b keep : Bool)
    → same_key key number.0 ≡ b → (b ≡ true → keep ≡ true)
    → number_of_key key kept ≡ number_of_key key rest
    → number_of_key key (cond keep (number ∷ kept) kept) ≡ number_of_key key (number ∷ rest)
kept_by key number rest kept b true is there h = number_same b is
  where
    number_same : (b : Bool) → same_key key number.0 ≡ b
        → number_of_key key (number ∷ kept) ≡ number_of_key key (number ∷ rest)
    number_same true is = at_first key number kept is ∙ sym (at_first key number rest is)
    number_same false is =
        past_first key number kept is ∙ h ∙ sym (past_first key number rest is)
kept_by key number rest kept true false is there h = absurd (grind arith)
kept_by key number rest kept false false is there h = h ∙ sym (past_first key number rest is)

pub same_number : (keep : Key → Bool) (key : Key) (numbers : Numbers) → keep key ≡ true
    → number_of_key key (filter (λ number. keep number.0) numbers) ≡ number_of_key key numbers
same_number keep key [] is = refl
same_number keep key (number ∷ numbers) is =
    kept_by key number numbers (filter (λ one. keep one.0) numbers) (same_key key number.0)
    (keep number.0) refl
    (λ same. subst (λ one. keep one ≡ true) ((equal_keys-key key number.0).0 same) is)
    (same_number keep key numbers is)
