-- Items are read as pairs two at a time, from the front.
use Rattle.std.proofs.Common.{◌≡◌, ℕ, ◌+◌, ◌<◌, ◌≤◌, Option, Some, None, List, [], ◌∷◌, ◌++◌, length, get_or, map, drop, refl, sym, ap, ap₂, ◌∙◌, arith, append_assoc}
use Rattle.std.specs.Prelude.{option_map}
use Rattle.std.specs.Borrow.{Bor}
use Rattle.std.proofs.lemmas.List.{drop_more, get_or-map, length-map, map-append, append-nil, drop_all}
use Rattle.curves_series.specs.Pairs.{Pair}
use Rattle.curves_series.specs.Curves.{number_pair, number_pairs}
use Rattle.curves_series.specs.declared.pair.PairRead.{PairRead}
use Rattle.curves_series.specs.internal.Views.{pair_now, texts}

-- the pairs of all items, where these came before
abbrev with_done : List Pair → Option (List Pair) → Option (List Pair)
with_done done later = option_map (λ pairs. done ++ pairs) later

one_more : (done : List Pair) (pair : Pair) (later : Option (List Pair)) → with_done done (option_map (λ pairs. pair ∷ pairs) later) ≡ with_done (done ++ pair ∷ []) later
one_more done pair None = refl
one_more done pair (Some pairs) = ap Some (sym (append_assoc done (pair ∷ []) pairs))

two_items : (found : List (Bor (List ℕ))) (at : ℕ) (d e : Bor (List ℕ)) → at + 1 < length found → drop at (texts found) ≡ (get_or found at d).now ∷ (get_or found (at + 1) e).now ∷ drop (at + 2) (texts found)
two_items found at d e lt =
    let xs = texts found in
    let long : length xs ≡ length found = length-map found (λ item. item.now) in
    let first : drop at xs ≡ get_or xs at [] ∷ drop (at + 1) xs = drop_more xs at [] (omega (arith, lt, long)) in
    let second : drop (at + 1) xs ≡ get_or xs (at + 1) [] ∷ drop (at + 1 + 1) xs = drop_more xs (at + 1) [] (omega (arith, lt, long)) in
    let one = get_or-map (λ item. item.now) found at d [] (omega (arith, lt)) in
    let two = get_or-map (λ item. item.now) found (at + 1) e [] lt in
    let next : at + 1 + 1 ≡ at + 2 = omega arith in
    first ∙ ap₂ ◌∷◌ one (second ∙ ap₂ ◌∷◌ two (ap (λ n. drop n xs) next))

pub pair_step : (found : List (Bor (List ℕ))) (old new : List PairRead) (pair : PairRead) (at : ℕ) (d e : Bor (List ℕ)) → at + 1 < length found → new ≡ old ++ pair ∷ [] → pair_now pair ≡ number_pair (get_or found at d).now (get_or found (at + 1) e).now → with_done (map pair_now old) (number_pairs (drop at (texts found))) ≡ number_pairs (texts found) → (with_done (map pair_now new) (number_pairs (drop (at + 2) (texts found))) ≡ number_pairs (texts found)) × (at + 2 ≤ length found)
unfolding number_pairs
pair_step found old new pair at d e lt pushed read all =
    let rest = drop (at + 2) (texts found) in
    let here = two_items found at d e lt in
    let done : map pair_now new ≡ map pair_now old ++ number_pair (get_or found at d).now (get_or found (at + 1) e).now ∷ [] = ap (map pair_now) pushed ∙ map-append pair_now old (pair ∷ []) ∙ ap (λ p. map pair_now old ++ p ∷ []) read in
    let turned = ap (λ xs. with_done (map pair_now old) (number_pairs xs)) here ∙ one_more (map pair_now old) _ (number_pairs rest) ∙ ap (λ front. with_done front (number_pairs rest)) (sym done) in
    (sym turned ∙ all, omega (arith, lt))

-- one item is left
pub odd_end : (found : List (Bor (List ℕ))) (done : List Pair) (at : ℕ) → at < length found → length found ≤ at + 1 → with_done done (number_pairs (drop at (texts found))) ≡ number_pairs (texts found) → None ≡ number_pairs (texts found)
unfolding number_pairs
odd_end found done at lt most all =
    let xs = texts found in
    let long : length xs ≡ length found = length-map found (λ item. item.now) in
    let first : drop at xs ≡ get_or xs at [] ∷ drop (at + 1) xs = drop_more xs at [] (omega (arith, lt, long)) in
    let last : drop (at + 1) xs ≡ [] = drop_all (at + 1) xs (omega (arith, most, long)) in
    sym (ap (λ ys. with_done done (number_pairs ys)) (first ∙ ap (λ ys. get_or xs at [] ∷ ys) last)) ∙ all

-- no item is left
pub even_end : (found : List (Bor (List ℕ))) (done : List Pair) (at : ℕ) → length found ≤ at → with_done done (number_pairs (drop at (texts found))) ≡ number_pairs (texts found) → Some done ≡ number_pairs (texts found)
unfolding number_pairs
even_end found done at most all =
    let xs = texts found in
    let long : length xs ≡ length found = length-map found (λ item. item.now) in
    let last : drop at xs ≡ [] = drop_all at xs (omega (arith, most, long)) in
    ap Some (sym (append-nil done)) ∙ sym (ap (λ ys. with_done done (number_pairs ys)) last) ∙ all
