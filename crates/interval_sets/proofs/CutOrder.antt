-- Cuts that rise from one to the next rise throughout.
use Rattle.std.proofs.Common.{◌≡◌, ◌↔◌, ℕ, zero, suc, ◌+◌, ◌-◌, ◌<◌, Some, List, [], ◌∷◌, length, get_or, refl, sym, subst, arith}
use Rattle.std.specs.Prelude.{slice_get}
use Rattle.std.proofs.lemmas.Option.{slice_get_within, slice_get-get_or}
use Rattle.exact_fraction.specs.Number.{Rational}
use Rattle.exact_fraction.specs.Order.{◌<ℚ◌}
use Rattle.exact_fraction.proofs.PublicLaws.{order-below_transitive}
use Rattle.interval_sets.specs.Cuts.{IsRising}

rising_by : (cuts : List Rational) (d : Rational) → IsRising cuts → (n i j : ℕ) → j ≡ i + 1 + n → j < length cuts → get_or cuts i d <ℚ get_or cuts j d
rising_by cuts d rises zero i j e h =
    let P : ℕ → Type 0 = λ m. get_or cuts i d <ℚ get_or cuts m d in
    let at : i + 1 ≡ j = omega arith in
    subst P at (rises i d (omega arith))
rising_by cuts d rises (suc n) i j e h =
    let mid = i + 1 + n in
    let P : ℕ → Type 0 = λ m. get_or cuts mid d <ℚ get_or cuts m d in
    let at : mid + 1 ≡ j = omega arith in
    order-below_transitive (get_or cuts i d) (get_or cuts mid d) (get_or cuts j d) (rising_by cuts d rises n i mid refl (omega arith)) (subst P at (rises mid d (omega arith)))

got : (cuts : List Rational) (d : Rational) (i : ℕ) (p : Rational) → slice_get cuts i ≡ Some p → get_or cuts i d ≡ p
got cuts d i p is =
    let e = slice_get-get_or cuts i d (slice_get_within cuts i p is) in
    cc

pub rising_pairs : (cuts : List Rational) → IsRising cuts → (i j : ℕ) (p q : Rational) → i < j → slice_get cuts i ≡ Some p → slice_get cuts j ≡ Some q → p <ℚ q
rising_pairs cuts rises i j p q h at_i at_j =
    let P : Rational → Type 0 = λ x. x <ℚ q in
    let Q : Rational → Type 0 = λ y. get_or cuts i p <ℚ y in
    let step : j ≡ i + 1 + (j - i - 1) = omega arith in
    subst P (got cuts p i p at_i) (subst Q (got cuts p j q at_j) (rising_by cuts p rises (j - i - 1) i j step (slice_get_within cuts j q at_j)))

-- two cuts rise where the first is below the second
pub rising_two : (cuts : List Rational) (p q : Rational) → cuts ≡ p ∷ q ∷ [] → p <ℚ q → IsRising cuts
rising_two cuts p q so h =
    let P : List Rational → Type 0 = λ x. IsRising x in
    subst P (sym so) rising
  where
    rising : (k : ℕ) (d : Rational) → k + 1 < 2 → get_or (p ∷ q ∷ []) k d <ℚ get_or (p ∷ q ∷ []) (k + 1) d
    rising zero d within = h
    rising (suc k) d within = absurd (omega arith)

-- cuts rise where the first is below the second and the second and all later ones rise
pub rising_next : (p q : Rational) (cuts : List Rational) → IsRising (p ∷ q ∷ cuts) ↔ ((p <ℚ q) × IsRising (q ∷ cuts))
rising_next p q cuts = (λ rises. (rises zero p (omega arith), later rises), λ (first, rest). all first rest)
  where
    later : IsRising (p ∷ q ∷ cuts) → IsRising (q ∷ cuts)
    later rises k d within =
        let P : ℕ → Type 0 = λ n. get_or (q ∷ cuts) k d <ℚ get_or (p ∷ q ∷ cuts) n d in
        let at : suc k + 1 ≡ suc (k + 1) = omega arith in
        subst P at (rises (suc k) d (omega arith))

    all : p <ℚ q → IsRising (q ∷ cuts) → IsRising (p ∷ q ∷ cuts)
    all first rest zero d within = first
    all first rest (suc k) d within =
        let P : ℕ → Type 0 = λ n. get_or (q ∷ cuts) k d <ℚ get_or (p ∷ q ∷ cuts) n d in
        let at : suc (k + 1) ≡ suc k + 1 = omega arith in
        subst P at (rest k d (omega arith))

-- one cut rises
pub rising_one : (p : Rational) → IsRising (p ∷ [])
rising_one p k d within = absurd (omega arith)
