-- Keys in key order are apart.
use Rattle.std.proofs.Common.{◌≡◌, false, List, [], ◌∷◌, Less, Equal, Greater, refl, sym, ap, ◌∙◌}
use Rattle.std.proofs.lemmas.Cmp.{nat_list_cmp_total}
use Rattle.std.proofs.lemmas.Map.Text.{is_eq-slice_cmp}
use Rattle.std.specs.List.{AllByRecursion}
use Rattle.std.specs.Ordering.{is_eq, ordering_reverse}
use Rattle.std.specs.declared.cmp.Ordering.{Ordering}
use Rattle.rule_types.specs.declared.key.Key.{Key}
use Rattle.rule_types.specs.KeyOrder.{key_cmp, key_place}
use Rattle.verdict_meaning.specs.Questions.{in_key_order, placed_by, with_key}
use Rattle.verdict_meaning.specs.Reaches.{same_key}

-- ---- a key that is added
pub each_placed : (P : Key → Type 0) (key : Key) (keys : List Key) → P key → AllByRecursion P keys
    → AllByRecursion P (with_key key keys)
unfolding with_key
each_placed P key [] p h = (p, tt)
each_placed P key (next ∷ more) p h =
    by_order (key_cmp key next) (each_placed P key more p h.1)
  where
    by_order : (o : Ordering) → AllByRecursion P (with_key key more)
        → AllByRecursion P (placed_by o key next more (with_key key more))
    by_order Less later = (p, h)
    by_order Equal later = h
    by_order Greater later = (h.0, later)

pub each_ordered : (P : Key → Type 0) (keys : List Key) → AllByRecursion P keys
    → AllByRecursion P (in_key_order keys)
unfolding in_key_order
each_ordered P [] h = tt
each_ordered P (key ∷ more) h = each_placed P key (in_key_order more) h.0 (each_ordered P more h.1)

-- ---- keys that rise
abbrev pub IsBefore : Key → Key → Type 0
IsBefore a b = key_cmp a b ≡ Less

unfoldable pub Rise : List Key → Type 0
Rise [] = Unit {0}
Rise (key ∷ more) = AllByRecursion (IsBefore key) more × Rise more

pub before_all : (a b : Key) (keys : List Key) → IsBefore a b → AllByRecursion (IsBefore b) keys
    → AllByRecursion (IsBefore a) keys
before_all a b [] less h = tt
before_all a b (key ∷ more) less h = (
  nat_list_cmp_total.trans (key_place a) (key_place b) (key_place key) less h.0,
  before_all a b more less h.1,
)

turned : (a b : Key) → key_cmp a b ≡ Greater → IsBefore b a
turned a b after =
    nat_list_cmp_total.antisymm (key_place b) (key_place a) ∙ ap ordering_reverse after

rise_placed : (key next : Key) (more later : List Key) (o : Ordering) → key_cmp key next ≡ o
    → AllByRecursion (IsBefore next) more → Rise more
    → (IsBefore next key → AllByRecursion (IsBefore next) later) → Rise later
    → Rise (placed_by o key next more later)
unfolding Rise
rise_placed key next more later Less is h rest above rising =
    ((is, before_all key next more is h), (h, rest))
rise_placed key next more later Equal is h rest above rising = (h, rest)
rise_placed key next more later Greater is h rest above rising =
    (above (turned key next is), rising)

rise_with : (key : Key) (keys : List Key) → Rise keys → Rise (with_key key keys)
unfolding with_key Rise
rise_with key [] h = (tt, tt)
rise_with key (next ∷ more) h =
    rise_placed key next more (with_key key more) (key_cmp key next) refl h.0 h.1
    (λ less. each_placed (IsBefore next) key more less h.0) (rise_with key more h.1)

pub rise_ordered : (keys : List Key) → Rise (in_key_order keys)
unfolding in_key_order Rise
rise_ordered [] = tt
rise_ordered (key ∷ more) = rise_with key (in_key_order more) (rise_ordered more)

-- ---- keys that are apart
unfoldable pub AreApart : List Key → Type 0
AreApart [] = Unit {0}
AreApart (key ∷ more) =
    AllByRecursion (λ other. same_key other key ≡ false) more × AreApart more

pub not_same : (key other : Key) → IsBefore key other → same_key other key ≡ false
not_same key other less =
    let after : key_cmp other key ≡ Greater =
    nat_list_cmp_total.antisymm (key_place other) (key_place key) ∙ ap ordering_reverse less in
    sym (is_eq-slice_cmp (key_place other) (key_place key)) ∙ ap is_eq after

none_same : (key : Key) (keys : List Key) → AllByRecursion (IsBefore key) keys
    → AllByRecursion (λ other. same_key other key ≡ false) keys
none_same key [] h = tt
none_same key (other ∷ more) h = (not_same key other h.0, none_same key more h.1)

pub apart : (keys : List Key) → Rise keys → AreApart keys
unfolding Rise AreApart
apart [] h = tt
apart (key ∷ more) h = (none_same key more h.0, apart more h.1)
