-- Lists that are made by inserting each item at its place.
use Rattle.std.proofs.Common.{◌≡◌, List, [], ◌∷◌, refl, sym, subst, ap, ◌∙◌, ◌⊎◌, inl, inr, arith}
use Rattle.std.specs.Prelude.{All, Contains}
use Rattle.std.specs.BTreeSet.{insert_key}
use Rattle.std.specs.Cmp.{IsTotalOrder}
use Rattle.std.specs.List.Sorted.{IsStrictlySortedBy}
use Rattle.std.specs.Ordering.{match_ordering, ordering_reverse}
use Rattle.std.specs.declared.cmp.Ordering.{Ordering}
use Rattle.std.specs.declared.cmp.Ordering.TheVariants.{Less, Equal, Greater}
use Rattle.std.proofs.lemmas.List.Elements.{All-nil, All-cons, All-head, All-tail, All-weaker, Contains-push, Contains-append_left, Contains-append_right, Contains-append_cases, All-from_recursion, recursion_from_All}
use Rattle.std.proofs.lemmas.Map.Views.{All-insert_key}

module _ {K : Type 0} (cmp : K → K → Ordering) where
  -- the items with each of some others at its place
  abbrev pub with_each : List K → List K → List K
  with_each found [] = found
  with_each found (key ∷ more) = with_each (insert_key cmp found key) more

  pub each_holds : (P : K → Type 0) (found more : List K) → All P found → All P more → All P (with_each found more)
  each_holds P found [] h k = h
  each_holds P found (key ∷ more) h k =
      each_holds P (insert_key cmp found key) more
      (All-insert_key cmp key P found h (All-head P key more k)) (All-tail P key more k)

  module _ (ties : (x y : K) → cmp x y ≡ Equal → x ≡ y) where
    insert_here : (found : List K) (key : K) → Contains (insert_key cmp found key) key
    insert_here [] key = Contains-push [] key
    insert_here (first ∷ found) key = by_order (cmp key first) refl (insert_here found key)
      where
        by_order : (r : Ordering) → cmp key first ≡ r → Contains (insert_key cmp found key) key
            → Contains (match_ordering r (key ∷ first ∷ found) (first ∷ found) (first ∷ insert_key cmp found key)) key
        by_order Less e h = Contains-append_left (key ∷ []) (first ∷ found) key (Contains-push [] key)
        by_order Equal e h =
            subst (λ k. Contains (first ∷ found) k) (sym (ties key first e))
            (Contains-append_left (first ∷ []) found first (Contains-push [] first))
        by_order Greater e h = Contains-append_right (first ∷ []) (insert_key cmp found key) key h

    insert_keeps : (found : List K) (key other : K) → Contains found other → Contains (insert_key cmp found key) other
    insert_keeps [] key other h = absurd (none_in other h)
      where
        none_in : (other : K) → Contains [] other → ⊥
        none_in other h = omega (arith, h.1)
    insert_keeps (first ∷ found) key other h = by_order (cmp key first) (λ there. insert_keeps found key other there)
      where
        by_case : (Contains found other → Contains (insert_key cmp found key) other)
            → Contains (first ∷ []) other ⊎ Contains found other
            → Contains (first ∷ insert_key cmp found key) other
        by_case k (inl here) = Contains-append_left (first ∷ []) (insert_key cmp found key) other here
        by_case k (inr there) =
            Contains-append_right (first ∷ []) (insert_key cmp found key) other (k there)

        by_order : (r : Ordering) → (Contains found other → Contains (insert_key cmp found key) other)
            → Contains (match_ordering r (key ∷ first ∷ found) (first ∷ found) (first ∷ insert_key cmp found key)) other
        by_order Less k = Contains-append_right (key ∷ []) (first ∷ found) other h
        by_order Equal k = h
        by_order Greater k = by_case k (Contains-append_cases (first ∷ []) found other h)

    each_keeps : (found more : List K) (other : K) → Contains found other → Contains (with_each found more) other
    each_keeps found [] other h = h
    each_keeps found (key ∷ more) other h =
        each_keeps (insert_key cmp found key) more other (insert_keeps found key other h)

    pub each_there : (found more : List K) → All (Contains (with_each found more)) more
    each_there found [] = All-nil (Contains (with_each found []))
    each_there found (key ∷ more) =
        All-cons (Contains (with_each found (key ∷ more))) key more
        (each_keeps (insert_key cmp found key) more key (insert_here found key))
        (each_there (insert_key cmp found key) more)

  module _ (o : IsTotalOrder cmp) where
    insert_sorted : (found : List K) (key : K) → IsStrictlySortedBy cmp found → IsStrictlySortedBy cmp (insert_key cmp found key)
    unfolding IsStrictlySortedBy
    insert_sorted [] key h = (tt, tt)
    insert_sorted (first ∷ found) key h = by_order (cmp key first) refl (insert_sorted found key h.1)
      where
        by_order : (r : Ordering) → cmp key first ≡ r → IsStrictlySortedBy cmp (insert_key cmp found key)
            → IsStrictlySortedBy cmp (match_ordering r (key ∷ first ∷ found) (first ∷ found) (first ∷ insert_key cmp found key))
        by_order Less e k = (
          (
            e,
            recursion_from_All (λ y. cmp key y ≡ Less) found
                (All-weaker (λ y. cmp first y ≡ Less) (λ y. cmp key y ≡ Less) (λ y l. o.trans key first y e l) found
                (All-from_recursion (λ y. cmp first y ≡ Less) found h.0)),
          ),
          h,
        )
        by_order Equal e k = h
        by_order Greater e k =
            let below : cmp first key ≡ Less = o.antisymm first key ∙ ap ordering_reverse e in (
              recursion_from_All (λ y. cmp first y ≡ Less) (insert_key cmp found key)
                  (All-insert_key cmp key (λ y. cmp first y ≡ Less) found
                  (All-from_recursion (λ y. cmp first y ≡ Less) found h.0) below),
              k,
            )

    pub each_sorted : (found more : List K) → IsStrictlySortedBy cmp found → IsStrictlySortedBy cmp (with_each found more)
    each_sorted found [] h = h
    each_sorted found (key ∷ more) h = each_sorted (insert_key cmp found key) more (insert_sorted found key h)
