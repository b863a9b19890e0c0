-- Places that are sorted by rank are the places by rank.
use Rattle.std.proofs.Common.{◌≡◌, ℕ, suc, zero, ◌+◌, ◌<◌, Bool, true, false, cond, eqb, List, [], ◌∷◌, ◌++◌, length, get_or, refl, sym, ap, subst, ◌∙◌, ◌⊎◌, inl, inr, ⊎_elim, arith}
use Rattle.std.proofs.lemmas.Bool.{eqb-true, eq-eqb}
use Rattle.std.proofs.lemmas.List.Sorted.{IsPermutation-refl, IsPermutation-cons, IsPermutation-sym, IsPermutation-trans, sorted_far, sum_by-IsPermutation}
use Rattle.std.proofs.lemmas.List.Sums.{sum_by-cons}
use Rattle.std.specs.Cmp.{IsStrictWeakOrder}
use Rattle.std.specs.List.{Contains, range_with_len, sum_by}
use Rattle.std.specs.List.Sorted.{IsPermutation, IsSortedBy}
use Rattle.rule_types.specs.declared.rule.Rule.{Rule}
use Rattle.rule_meaning.proofs.PublicLaws.{members-first, members-later, members-cases}
use Rattle.table_compiler.specs.Rows.{rule_precedes, with_place, ranked_from, ranked}
use Rattle.table_compiler.proofs.RankedPlaces.{one_way, chain, ties, IsRanked, with_place_moves, ranked_is}

pub rank_order : (rules : List Rule) → IsStrictWeakOrder (rule_precedes rules)
rank_order rules = record { one_way = one_way rules; chain = chain rules }

-- ---- how often a place is among others

abbrev count : ℕ → List ℕ → ℕ
count k places = sum_by (λ m. cond {A = ℕ} (eqb m k) 1 0) places

count_cons : (k m : ℕ) (places : List ℕ) → count k (m ∷ places) ≡ cond {A = ℕ} (eqb m k) 1 0 + count k places
count_cons k m places = sum_by-cons (λ n. cond {A = ℕ} (eqb n k) 1 0) m places

count_first : (k : ℕ) (places : List ℕ) → 0 < count k (k ∷ places)
count_first k places =
    let is : eqb k k ≡ true = eq-eqb k k refl in
    let step : count k (k ∷ places) ≡ cond {A = ℕ} (eqb k k) 1 0 + count k places = count_cons k k places in
    let one : cond {A = ℕ} (eqb k k) 1 0 ≡ 1 = ap (λ b. cond {A = ℕ} b 1 0) is in
    omega arith

counted_by : (k m : ℕ) (places : List ℕ) (b : Bool) → eqb m k ≡ b → (0 < count k places → Contains places k) → 0 < count k (m ∷ places) → Contains (m ∷ places) k
counted_by k m places true is later h = subst (λ n. Contains (m ∷ places) n) (eqb-true m k is) (members-first m places)
counted_by k m places false is later h =
    let step : count k (m ∷ places) ≡ cond {A = ℕ} (eqb m k) 1 0 + count k places = count_cons k m places in
    let none : cond {A = ℕ} (eqb m k) 1 0 ≡ 0 = ap (λ b. cond {A = ℕ} b 1 0) is in
    members-later m places k (later (omega arith))

counted_in : (k : ℕ) (places : List ℕ) → 0 < count k places → Contains places k
counted_in k [] h = absurd (omega (arith, h))
counted_in k (m ∷ places) h = counted_by k m places (eqb m k) refl (counted_in k places) h

-- ---- one order
not_before_head : (rules : List Rule) (y : ℕ) (ys : List ℕ) (k : ℕ) → IsRanked rules (y ∷ ys) → Contains (y ∷ ys) k → (y ≡ k) ⊎ (rule_precedes rules k y ≡ false)
not_before_head rules y ys k h k_in =
    ⊎_elim inl (λ (later : Contains ys k). inr (h.0 k later)) (members-cases y ys k k_in)

same_heads : (rules : List Rule) (x y : ℕ) → (y ≡ x) ⊎ (rule_precedes rules x y ≡ false) → (x ≡ y) ⊎ (rule_precedes rules y x ≡ false) → x ≡ y
same_heads rules x y (inl e) g = sym e
same_heads rules x y (inr f) (inl e) = e
same_heads rules x y (inr f) (inr g) = ties rules x y f g

less_one : (k x y : ℕ) (xs ys : List ℕ) → x ≡ y → count k (x ∷ xs) ≡ count k (y ∷ ys) → count k xs ≡ count k ys
less_one k x y xs ys e h =
    let left : count k (x ∷ xs) ≡ cond {A = ℕ} (eqb x k) 1 0 + count k xs = count_cons k x xs in
    let right : count k (y ∷ ys) ≡ cond {A = ℕ} (eqb y k) 1 0 + count k ys = count_cons k y ys in
    let one : cond {A = ℕ} (eqb x k) 1 0 ≡ cond {A = ℕ} (eqb y k) 1 0 = ap (λ m. cond {A = ℕ} (eqb m k) 1 0) e in
    omega arith

pub one_order : (rules : List Rule) (xs ys : List ℕ) → IsRanked rules xs → IsRanked rules ys → ((k : ℕ) → count k xs ≡ count k ys) → xs ≡ ys
one_order rules [] [] h g same = refl
one_order rules [] (y ∷ ys) h g same = absurd (let e : count y [] ≡ count y (y ∷ ys) = same y in let more : 0 < count y (y ∷ ys) = count_first y ys in let none : count y [] ≡ 0 = refl in omega arith)
one_order rules (x ∷ xs) [] h g same = absurd (let e : count x (x ∷ xs) ≡ count x [] = same x in let more : 0 < count x (x ∷ xs) = count_first x xs in let none : count x [] ≡ 0 = refl in omega arith)
one_order rules (x ∷ xs) (y ∷ ys) h g same =
    let x_more : 0 < count x (y ∷ ys) = subst (λ n. 0 < n) (same x) (count_first x xs) in
    let y_more : 0 < count y (x ∷ xs) = subst (λ n. 0 < n) (sym (same y)) (count_first y ys) in
    let heads : x ≡ y =
    same_heads rules x y
    (not_before_head rules y ys x g (counted_in x (y ∷ ys) x_more))
    (not_before_head rules x xs y h (counted_in y (x ∷ xs) y_more)) in
    let rest : xs ≡ ys = one_order rules xs ys h.1 g.1 (λ k. less_one k x y xs ys heads (same k)) in
    cc

-- ---- sorted places
pub ranked_from_sorted : (rules : List Rule) (places : List ℕ) → IsSortedBy (rule_precedes rules) places → IsRanked rules places
ranked_from_sorted rules [] up = tt
ranked_from_sorted rules (x ∷ xs) up = (
  (λ later later_in. (
      let far : rule_precedes rules (get_or xs later_in.0 later) x ≡ false =
      sorted_far (rule_precedes rules) (rank_order rules) (x ∷ xs) up 0 (suc later_in.0) later (omega arith) (let low = later_in.1 in omega arith) in
      ap (λ m. rule_precedes rules m x) (sym later_in.2) ∙ far)),
  ranked_from_sorted rules xs (λ k d low high. (
      let next : suc k + 1 ≡ suc (k + 1) = omega arith in
      subst (λ n. rule_precedes rules (get_or (x ∷ xs) n d) (get_or xs k d) ≡ false) next (up (suc k) d (omega arith) (omega (arith, high))))),
)

ranked_from_moves : (rules : List Rule) (place : ℕ) (list : List Rule) → IsPermutation (range_with_len place (length list)) (ranked_from rules place list)
unfolding ranked_from
ranked_from_moves rules place [] = IsPermutation-refl []
ranked_from_moves rules place (rule ∷ more) =
    let next : suc place ≡ place + 1 = omega arith in
    let rest : IsPermutation (range_with_len (place + 1) (length more)) (ranked_from rules (suc place) more) =
    subst (λ n. IsPermutation (range_with_len n (length more)) (ranked_from rules (suc place) more)) next (ranked_from_moves rules (suc place) more) in
    IsPermutation-trans (place ∷ range_with_len (place + 1) (length more)) (place ∷ ranked_from rules (suc place) more) (with_place rules place (ranked_from rules (suc place) more))
    (IsPermutation-cons place (range_with_len (place + 1) (length more)) (ranked_from rules (suc place) more) rest)
    (with_place_moves rules place (ranked_from rules (suc place) more))

pub sorted_is_ranked : (rules : List Rule) (before places : List ℕ) → before ≡ range_with_len 0 (length rules) → IsPermutation before places → IsSortedBy (rule_precedes rules) places → places ≡ ranked rules
sorted_is_ranked rules before places all moved up =
    let both : IsPermutation places (ranked_from rules 0 rules) =
    IsPermutation-trans places before (ranked_from rules 0 rules) (IsPermutation-sym before places moved)
    (subst (λ l. IsPermutation l (ranked_from rules 0 rules)) (sym all) (ranked_from_moves rules 0 rules)) in
    one_order rules places (ranked_from rules 0 rules) (ranked_from_sorted rules places up) (ranked_is rules)
    (λ k. sym (sum_by-IsPermutation (λ m. cond {A = ℕ} (eqb m k) 1 0) places (ranked_from rules 0 rules) both))

-- ---- each place once, and in order
pub ranked_moves : (rules : List Rule) → IsPermutation (range_with_len 0 (length rules)) (ranked rules)
ranked_moves rules = ranked_from_moves rules 0 rules

-- ---- the numbers below a count, with the next one
range_end : (a n : ℕ) → range_with_len a n ++ (a + n) ∷ [] ≡ range_with_len a (suc n)
range_end a zero = ap (λ m. m ∷ []) (let e : a + 0 ≡ a = omega arith in e)
range_end a (suc n) =
    let next : a + suc n ≡ a + 1 + n = omega arith in
    ap (λ m. a ∷ (range_with_len (a + 1) n ++ m ∷ [])) next ∙ ap (λ l. a ∷ l) (range_end (a + 1) n)

pub range_push : (n : ℕ) → range_with_len 0 n ++ n ∷ [] ≡ range_with_len 0 (n + 1)
range_push n =
    let here : n ≡ 0 + n = omega arith in
    let more : suc n ≡ n + 1 = omega arith in
    ap (λ m. range_with_len 0 n ++ m ∷ []) here ∙ range_end 0 n ∙ ap (range_with_len 0) more
