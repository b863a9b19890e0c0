-- A key is found among keys in key order by halving.
use Rattle.std.proofs.Common.{◌≡◌, ℕ, ◌+◌, ◌<◌, ◌≤◌, Bool, true, false, not, cond, List, length, get_or, Some, None, Err, refl, ap, sym, subst, ◌∙◌, arith, ltb}
use Rattle.std.specs.Cmp.{IsTotalOrder, on_total}
use Rattle.std.proofs.lemmas.Cmp.{nat_list_cmp_total}
use Rattle.std.proofs.lemmas.Map.Text.{is_eq-slice_cmp}
use Rattle.std.specs.List.{position, position_or_len, HoldsAt, AllWithin}
use Rattle.std.specs.List.Sorted.{IsBinarySearchResult, IsNonDecreasingBy}
use Rattle.std.proofs.lemmas.List.Sums.{prefix_len_is}
use Rattle.std.proofs.lemmas.List.Sorted.{IsNonDecreasingBy-from_all_adjacent}
use Rattle.std.proofs.lemmas.Bool.Decides.{nat_tests}
use Rattle.std.specs.Ordering.{ordering_index, ordering_reverse, is_eq}
use Rattle.std.specs.declared.cmp.Ordering.{Ordering}
use Rattle.std.specs.declared.cmp.Ordering.TheVariants.{Less, Equal, Greater}
use Rattle.std.specs.Str.{bytes_eq}
use Rattle.rule_types.specs.declared.key.Key.{Key}
use Rattle.rule_types.specs.KeyOrder.{key_place, key_cmp, IsInKeyOrder}
use Rattle.trace_csv.specs.Columns.{key_at}

key_total : IsTotalOrder key_cmp
key_total = on_total key_place nat_list_cmp_total

-- how a key stands to the one that is looked for, as a number
abbrev rank : Key → Key → ℕ
rank key other = ordering_index (key_cmp other key)

at_most_two : (o : Ordering) → ordering_index o ≤ 2
at_most_two Less = omega arith
at_most_two Equal = omega arith
at_most_two Greater = omega arith

-- a key before one that equals the looked for is less than it
before_equal : (key x y : Key) → key_cmp x y ≡ Less → key_cmp y key ≡ Equal → key_cmp x key ≡ Less
before_equal key x y less equal =
    let turned : key_cmp y x ≡ Greater = key_total.antisymm y x ∙ ap ordering_reverse less in
    let moved : key_cmp y x ≡ key_cmp key x = key_total.congr y key x equal in
    key_total.antisymm x key ∙ ap ordering_reverse (sym moved ∙ turned)

rank_rises : (key x y : Key) → key_cmp x y ≡ Less → rank key x ≤ rank key y
rank_rises key x y less = by_order (key_cmp y key) refl where
  by_order : (o : Ordering) → key_cmp y key ≡ o → ordering_index (key_cmp x key) ≤ ordering_index o
  by_order Less is = let e : key_cmp x key ≡ Less = key_total.trans x y key less is in rw e (omega arith)
  by_order Equal is = let e : key_cmp x key ≡ Less = before_equal key x y less is in rw e (omega arith)
  by_order Greater is = at_most_two (key_cmp x key)

ranks_rise : (keys : List Key) (key : Key) → IsInKeyOrder keys → IsNonDecreasingBy (rank key) keys
ranks_rise keys key order =
    IsNonDecreasingBy-from_all_adjacent (rank key) keys (λ k d below. rank_rises key (get_or keys k d) (get_or keys (k + 1) d) (order k d below))

-- the test of the definition, by the order
abbrev is_key_of : Key → Key → Bool
is_key_of key other = bytes_eq (key_place key) (key_place other)

test_is : (key other : Key) → is_key_of key other ≡ is_eq (key_cmp key other)
test_is key other = sym (is_eq-slice_cmp (key_place key) (key_place other))

passes : (key other : Key) → key_cmp other key ≡ Equal → is_key_of key other ≡ true
passes key other is = test_is key other ∙ ap is_eq (key_total.antisymm key other ∙ ap ordering_reverse is)

fails_less : (key other : Key) → key_cmp other key ≡ Less → is_key_of key other ≡ false
fails_less key other is = test_is key other ∙ ap is_eq (key_total.antisymm key other ∙ ap ordering_reverse is)

fails_greater : (key other : Key) → key_cmp other key ≡ Greater → is_key_of key other ≡ false
fails_greater key other is = test_is key other ∙ ap is_eq (key_total.antisymm key other ∙ ap ordering_reverse is)

-- the first place of a test, from what holds there and before
place_is : {A : Type 0} (test : A → Bool) (xs : List A) (k : ℕ) (d : A) → k < length xs → test (get_or xs k d) ≡ true
    → ((j : ℕ) → j < k → test (get_or xs j d) ≡ false) → Some k ≡ position test xs
place_is test xs k d within here before =
    let first : position_or_len test xs ≡ k =
    prefix_len_is (λ x. not (test x)) xs k d (omega arith) (λ j below. ap not (before j below)) (λ less. ap not here) in
    let inside : ltb k (length xs) ≡ true = grind (arith, nat_tests) in
    sym (ap (λ n. cond (ltb n (length xs)) (Some n) None) first ∙ ap (λ less. cond less (Some k) None) inside)

nowhere : {A : Type 0} (test : A → Bool) (xs : List A) (d : A) → ((j : ℕ) → j < length xs → test (get_or xs j d) ≡ false) → None ≡ position test xs
nowhere test xs d none =
    let first : position_or_len test xs ≡ length xs =
    prefix_len_is (λ x. not (test x)) xs (length xs) d (omega arith) (λ j below. ap not (none j below)) (λ less. absurd (omega arith)) in
    let outside : ltb (length xs) (length xs) ≡ false = grind (arith, nat_tests) in
    sym (ap (λ n. cond (ltb n (length xs)) (Some n) None) first ∙ ap (λ less. cond less (Some (length xs)) None) outside)

-- a key before the place of the looked for is another
earlier : (keys : List Key) (key d : Key) (place j : ℕ) → IsInKeyOrder keys → place < length keys → key_cmp (get_or keys place d) key ≡ Equal
    → j < place → is_key_of key (get_or keys j d) ≡ false
earlier keys key d place j order within here below = by_order (key_cmp (get_or keys j d) key) refl where
  below_place : ordering_index (key_cmp (get_or keys j d) key) ≤ 1
  below_place = subst (λ o. rank key (get_or keys j d) ≤ ordering_index o) here (ranks_rise keys key order j place d (omega arith) within)

  next_below : ordering_index (key_cmp (get_or keys (j + 1) d) key) ≤ 1
  next_below = subst (λ o. rank key (get_or keys (j + 1) d) ≤ ordering_index o) here (ranks_rise keys key order (j + 1) place d (omega arith) within)

  step : key_cmp (get_or keys j d) (get_or keys (j + 1) d) ≡ Less
  step = order j d (omega arith)

  not_twice : key_cmp (get_or keys j d) key ≡ Equal → ⊥
  not_twice is =
      let moved : key_cmp (get_or keys j d) (get_or keys (j + 1) d) ≡ key_cmp key (get_or keys (j + 1) d) = key_total.congr (get_or keys j d) key (get_or keys (j + 1) d) is in
      let more : key_cmp (get_or keys (j + 1) d) key ≡ Greater = key_total.antisymm (get_or keys (j + 1) d) key ∙ ap ordering_reverse (sym moved ∙ step) in
      let two : ordering_index (key_cmp (get_or keys (j + 1) d) key) ≡ 2 = ap ordering_index more in
      omega (arith, next_below)

  by_order : (o : Ordering) → key_cmp (get_or keys j d) key ≡ o → is_key_of key (get_or keys j d) ≡ false
  by_order Less is = fails_less key (get_or keys j d) is
  by_order Equal is = absurd (not_twice is)
  by_order Greater is =
      let two : ordering_index (key_cmp (get_or keys j d) key) ≡ 2 = ap ordering_index is in absurd (omega (arith, below_place))

pub found_there : (keys : List Key) (key d : Key) (place : ℕ) → IsInKeyOrder keys → place < length keys
    → HoldsAt (λ y. key_cmp y key ≡ Equal) keys place → Some place ≡ key_at keys key
unfolding key_at
found_there keys key d place order within holds =
    place_is (is_key_of key) keys place d within (passes key (get_or keys place d) (holds d))
    (λ j below. earlier keys key d place j order within (holds d) below)

pub found_nowhere : (keys : List Key) (key d : Key) (i : ℕ) → IsInKeyOrder keys
    → IsBinarySearchResult (λ y. key_cmp y key) keys (Err i) → None ≡ key_at keys key
unfolding key_at
found_nowhere keys key d i order result = nowhere (is_key_of key) keys d each where
  parts : AllWithin (λ y. key_cmp y key ≡ Less) keys 0 i × AllWithin (λ y. key_cmp y key ≡ Greater) keys i (length keys)
  parts = result (ranks_rise keys key order)

  each : (j : ℕ) → j < length keys → is_key_of key (get_or keys j d) ≡ false
  each j within = by_side (ltb j i) refl where
    by_side : (low : Bool) → ltb j i ≡ low → is_key_of key (get_or keys j d) ≡ false
    by_side true is = let less : j < i = grind (arith, nat_tests) in fails_less key (get_or keys j d) (parts.0 j d (omega arith) less)
    by_side false is = let more : i ≤ j = grind (arith, nat_tests) in fails_greater key (get_or keys j d) (parts.1 j d more within)
