-- The places of rules by rank: each place is among them, and no later one precedes an earlier one.
use Rattle.std.proofs.Common.{◌≡◌, ℕ, suc, zero, ◌+◌, ◌<◌, Bool, true, false, List, [], ◌∷◌, length, get_or, refl, sym, ap, subst, ◌∙◌, ⊎_elim, arith, slice_get}
use Rattle.std.proofs.lemmas.List.Elements.{Contains-get_or}
use Rattle.std.specs.List.{Contains}
use Rattle.std.specs.List.Sorted.{IsPermutation}
use Rattle.std.proofs.lemmas.List.Sorted.{IsPermutation-refl, IsPermutation-cons, IsPermutation-sym, IsPermutation-trans, IsPermutation-middle, Contains-permutation}
use Rattle.rule_types.specs.declared.rule.Rule.{Rule}
use Rattle.rule_meaning.specs.Settled.{rule_priority}
use Rattle.rule_meaning.proofs.PublicLaws.{ranks-asymmetric, ranks-weak, ranks-ties, members-first, members-later, members-cases}
use Rattle.table_compiler.specs.Rows.{rule_precedes, with_place, ranked_from, ranked}

-- ---- the order
pub one_way : (rules : List Rule) (m n : ℕ) → rule_precedes rules m n ≡ true → rule_precedes rules n m ≡ false
unfolding rule_precedes
one_way rules m n h = ranks-asymmetric (rule_priority (slice_get rules m)) (rule_priority (slice_get rules n)) m n h

pub chain : (rules : List Rule) (m n k : ℕ) → rule_precedes rules m n ≡ false → rule_precedes rules n k ≡ false → rule_precedes rules m k ≡ false
unfolding rule_precedes
chain rules m n k h g =
    ranks-weak (rule_priority (slice_get rules m)) (rule_priority (slice_get rules n)) (rule_priority (slice_get rules k)) m n k h g

pub ties : (rules : List Rule) (m n : ℕ) → rule_precedes rules m n ≡ false → rule_precedes rules n m ≡ false → m ≡ n
unfolding rule_precedes
ties rules m n h g = ranks-ties (rule_priority (slice_get rules m)) (rule_priority (slice_get rules n)) m n h g

not_before_itself_by : (rules : List Rule) (m : ℕ) (b : Bool) → rule_precedes rules m m ≡ b → rule_precedes rules m m ≡ false
not_before_itself_by rules m true is = one_way rules m m is
not_before_itself_by rules m false is = is

pub not_before_itself : (rules : List Rule) (m : ℕ) → rule_precedes rules m m ≡ false
not_before_itself rules m = not_before_itself_by rules m (rule_precedes rules m m) refl

-- ---- places in order
abbrev pub IsRanked : List Rule → List ℕ → Type 0
IsRanked rules [] = Unit {0}
IsRanked rules (place ∷ more) =
    ((later : ℕ) → Contains more later → rule_precedes rules later place ≡ false) × IsRanked rules more

no_member : (k : ℕ) → Contains [] k → ⊥
no_member k h = omega (arith, h.1)

-- ---- with one more place
with_place_moves_by : (rules : List Rule) (place next : ℕ) (more : List ℕ) (b : Bool) → rule_precedes rules place next ≡ b → IsPermutation (place ∷ more) (with_place rules place more) → IsPermutation (place ∷ next ∷ more) (with_place rules place (next ∷ more))
unfolding with_place
with_place_moves_by rules place next more true is h = rw is (IsPermutation-refl (place ∷ next ∷ more))
with_place_moves_by rules place next more false is h =
    rw is (IsPermutation-trans (place ∷ next ∷ more) (next ∷ place ∷ more) (next ∷ with_place rules place more)
    (IsPermutation-sym (next ∷ place ∷ more) (place ∷ next ∷ more) (IsPermutation-middle (next ∷ []) place more))
    (IsPermutation-cons next (place ∷ more) (with_place rules place more) h))

pub with_place_moves : (rules : List Rule) (place : ℕ) (places : List ℕ) → IsPermutation (place ∷ places) (with_place rules place places)
unfolding with_place
with_place_moves rules place [] = IsPermutation-refl (place ∷ [])
with_place_moves rules place (next ∷ more) =
    with_place_moves_by rules place next more (rule_precedes rules place next) refl (with_place_moves rules place more)

one_of_place : (rules : List Rule) (place : ℕ) (places : List ℕ) (k : ℕ) → Contains (with_place rules place places) k → Contains (place ∷ places) k
one_of_place rules place places k h =
    Contains-permutation (with_place rules place places) (place ∷ places) k
    (IsPermutation-sym (place ∷ places) (with_place rules place places) (with_place_moves rules place places)) h

with_place_ranked_by : (rules : List Rule) (place next : ℕ) (more : List ℕ) (b : Bool) → rule_precedes rules place next ≡ b → IsRanked rules (next ∷ more) → IsRanked rules (with_place rules place more) → IsRanked rules (with_place rules place (next ∷ more))
unfolding with_place
with_place_ranked_by rules place next more true is h later =
    rw is (
      (λ k k_in. ⊎_elim
          (λ (e : next ≡ k). ap (λ m. rule_precedes rules m place) (sym e) ∙ one_way rules place next is)
          (λ (k_more : Contains more k). chain rules k next place (h.0 k k_more) (one_way rules place next is))
          (members-cases next more k k_in)),
      h,
    )
with_place_ranked_by rules place next more false is h later =
    rw is (
      (λ k k_in. ⊎_elim
          (λ (e : place ≡ k). ap (λ m. rule_precedes rules m next) (sym e) ∙ is)
          (λ (k_more : Contains more k). h.0 k k_more)
          (members-cases place more k (one_of_place rules place more k k_in))),
      later,
    )

with_place_ranked : (rules : List Rule) (place : ℕ) (places : List ℕ) → IsRanked rules places → IsRanked rules (with_place rules place places)
unfolding with_place
with_place_ranked rules place [] h = (λ k k_in. absurd (no_member k k_in), tt)
with_place_ranked rules place (next ∷ more) h =
    with_place_ranked_by rules place next more (rule_precedes rules place next) refl h (with_place_ranked rules place more h.1)

-- ---- all places
ranked_from_is : (rules : List Rule) (place : ℕ) (list : List Rule) → IsRanked rules (ranked_from rules place list)
unfolding ranked_from
ranked_from_is rules place [] = tt
ranked_from_is rules place (rule ∷ more) = with_place_ranked rules place (ranked_from rules (suc place) more) (ranked_from_is rules (suc place) more)

pub ranked_is : (rules : List Rule) → IsRanked rules (ranked rules)
ranked_is rules = ranked_from_is rules 0 rules

ranked_from_in : (rules : List Rule) (place : ℕ) (list : List Rule) (k : ℕ) → k < length list → Contains (ranked_from rules place list) (place + k)
unfolding ranked_from
ranked_from_in rules place [] k h = absurd (omega (arith, h))
ranked_from_in rules place (rule ∷ more) zero h =
    let at : place ≡ place + 0 = omega arith in
    Contains-permutation (place ∷ ranked_from rules (suc place) more) (with_place rules place (ranked_from rules (suc place) more)) (place + 0)
    (with_place_moves rules place (ranked_from rules (suc place) more))
    (subst (λ m. Contains (place ∷ ranked_from rules (suc place) more) m) at (members-first place (ranked_from rules (suc place) more)))
ranked_from_in rules place (rule ∷ more) (suc k) h =
    let at : suc place + k ≡ place + suc k = omega arith in
    Contains-permutation (place ∷ ranked_from rules (suc place) more) (with_place rules place (ranked_from rules (suc place) more)) (place + suc k)
    (with_place_moves rules place (ranked_from rules (suc place) more))
    (members-later place (ranked_from rules (suc place) more) (place + suc k)
    (subst (λ m. Contains (ranked_from rules (suc place) more) m) at (ranked_from_in rules (suc place) more k (omega (arith, h)))))

pub all_ranked : (rules : List Rule) (k : ℕ) → k < length rules → Contains (ranked rules) k
all_ranked rules k h =
    let at : 0 + k ≡ k = omega arith in
    subst (λ m. Contains (ranked_from rules 0 rules) m) at (ranked_from_in rules 0 rules k h)

-- ---- in order, without a word of recursion
each_after : (rules : List Rule) (places : List ℕ) → IsRanked rules places → (i j : ℕ) (d : ℕ) → i < j → j < length places → rule_precedes rules (get_or places j d) (get_or places i d) ≡ false
each_after rules [] h i j d low within = absurd (omega arith)
each_after rules (place ∷ more) h zero zero d low within = absurd (omega arith)
each_after rules (place ∷ more) h zero (suc j) d low within = h.0 (get_or more j d) (Contains-get_or more j d (omega arith))
each_after rules (place ∷ more) h (suc i) zero d low within = absurd (omega arith)
each_after rules (place ∷ more) h (suc i) (suc j) d low within = each_after rules more h.1 i j d (omega arith) (omega arith)

pub ranked_after : (rules : List Rule) (i j d : ℕ) → i < j → j < length (ranked rules) → rule_precedes rules (get_or (ranked rules) j d) (get_or (ranked rules) i d) ≡ false
ranked_after rules i j d low within = each_after rules (ranked rules) (ranked_is rules) i j d low within
