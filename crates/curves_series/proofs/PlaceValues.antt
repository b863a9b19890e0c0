-- The value of a table is that at the place of x among its points.
use Rattle.std.proofs.Common.{◌≡◌, ℕ, zero, suc, ◌+◌, ◌-◌, ◌<◌, ◌≤◌, true, false, Some, Ok, Err, List, [], ◌∷◌, length, get_or, ℤ, pos, neg_ℤ, ◌≤ℤ◌, refl, sym, ap, subst, ◌∙◌, arith, inl, inr}
use Rattle.std.specs.List.{AllAdjacentBelow}
use Rattle.std.proofs.lemmas.Int.{ints}
use Rattle.std.proofs.lemmas.List.{get_or_default}
use Rattle.exact_fraction.specs.Number.{Rational}
use Rattle.exact_fraction.specs.Operations.{difference_of}
use Rattle.exact_fraction.specs.Order.{◌≤ℚ◌, ◌<ℚ◌, less}
use Rattle.exact_fraction.specs.Checked.{checked, is_zero, made, fitting}
use Rattle.exact_fraction.proofs.PublicLaws.{tests-less, tests-not_less, tests-above_zero, tells-checked, order-reflexive, order-transitive, order-below_is_at_most, order-at_most_below, sums-difference_below, sums-difference_sign, lowest_terms-fits}
use Rattle.rule_types.specs.declared.table.Point.{Point}
use Rattle.rule_types.specs.Tables.{IsPointList}
use Rattle.rule_meaning.specs.Clock.{hours_of}
use Rattle.rule_meaning.specs.StraightLines.{line_from, line_value, at_least_zero}
use Rattle.curves_series.specs.internal.Places.{next_value, value_from}

-- the run between two points that rise is not 0
run_above : (p q : Rational) → p <ℚ q → is_zero (difference_of q p) ≡ false
run_above p q h =
    let least = sums-difference_sign p p (order-reflexive p) in
    tests-above_zero (difference_of q p) (order-at_most_below _ _ _ least (sums-difference_below p q p h))

pub run_divides : (p q run : Rational) → p <ℚ q → checked (difference_of q p) ≡ Ok run → is_zero run ≡ false
run_divides p q run h e = elim (tells-checked (difference_of q p)) [
  | inl is ↦ (
      let same : Ok (difference_of q p) ≡ Ok run = sym is.1 ∙ e in
      let own : difference_of q p ≡ run = grind arith in
      subst (λ r. is_zero r ≡ false) own (run_above p q h))
  | inr is ↦ (let other : Err (record {}) ≡ Ok run = sym is.1 ∙ e in absurd (grind arith))
]

not_past : (p q : Rational) → less p q ≡ true → less q p ≡ false
not_past p q h = (tests-not_less q p).1 (order-below_is_at_most p q ((tests-less p q).0 h))

-- ---- the walk over the points
up_to : (p : Point) (more : List Point) (x : Rational) → less p.x x ≡ false → line_from p more x ≡ Ok p.y
unfolding line_from
up_to p [] x h = refl
up_to p (q ∷ more) x h = rw h refl

past_all : (p : Point) (more : List Point) (x : Rational) (d : Point) → ((k : ℕ) (e : Point) → k < length (p ∷ more) → less (get_or (p ∷ more) k e).x x ≡ true) → line_from p more x ≡ Ok (get_or (p ∷ more) (length more) d).y
unfolding line_from
past_all p [] x d below = refl
past_all p (q ∷ more) x d below =
    rw (below 0 d (omega arith), not_past q.x x (below 1 d (omega arith))) (past_all q more x d (λ k e lt. below (suc k) e (omega (arith, lt))))

inside : (p : Point) (more : List Point) (x : Rational) (k : ℕ) (d e : Point) → suc k < length (p ∷ more) → ((j : ℕ) (f : Point) → j < suc k → less (get_or (p ∷ more) j f).x x ≡ true) → less (get_or (p ∷ more) (suc k) e).x x ≡ false → line_from p more x ≡ next_value (get_or (p ∷ more) k d) (get_or (p ∷ more) (suc k) e) x
unfolding line_from
inside p [] x k d e lt below above = absurd (omega (arith, lt))
inside p (q ∷ more) x zero d e lt below above = rw (below 0 d (omega arith), up_to q more x above) refl
inside p (q ∷ more) x (suc k) d e lt below above =
    rw (below 0 d (omega arith), not_past q.x x (below 1 d (omega arith))) (inside q more x k d e (omega (arith, lt)) (λ j f less_k. below (suc j) f (omega (arith, less_k))) above)

-- ---- by the place of x
pub at_first : (points : List Point) (x : Rational) (d : Point) → 0 < length points → less (get_or points 0 d).x x ≡ false → Ok (get_or points 0 d).y ≡ value_from points x
unfolding value_from
at_first [] x d lt h = absurd (omega (arith, lt))
at_first (p ∷ more) x d lt h = sym (up_to p more x h)

pub at_last : (points : List Point) (x : Rational) (place : ℕ) (d : Point) → 0 < place → place ≡ length points → ((k : ℕ) (e : Point) → k < place → less (get_or points k e).x x ≡ true) → Ok (get_or points (place - 1) d).y ≡ value_from points x
unfolding value_from
at_last [] x place d some all below = absurd (omega (arith, some, all))
at_last (p ∷ more) x place d some all below =
    let same : place - 1 ≡ length more = omega (arith, all) in
    ap (λ k. Ok (get_or (p ∷ more) k d).y) same ∙ sym (past_all p more x d (λ k e lt. below k e (omega (arith, lt, all))))

pub at_place : (points : List Point) (x : Rational) (place : ℕ) (d e : Point) → 0 < place → place < length points → ((k : ℕ) (f : Point) → k < place → less (get_or points k f).x x ≡ true) → less (get_or points place e).x x ≡ false → next_value (get_or points (place - 1) d) (get_or points place e) x ≡ value_from points x
unfolding value_from
at_place [] x place d e some lt below above = absurd (omega (arith, lt))
at_place (p ∷ more) x zero d e some lt below above = absurd (omega (arith, some))
at_place (p ∷ more) x (suc k) d e some lt below above =
    let same : suc k - 1 ≡ k = omega arith in
    ap (λ j. next_value (get_or (p ∷ more) j d) (get_or (p ∷ more) (suc k) e) x) same ∙ sym (inside p more x k d e lt below above)

pub clamped_value : (points : List Point) (x : Rational) → 0 < length points → line_value points x ≡ at_least_zero (value_from points x)
unfolding line_value value_from
clamped_value [] x lt = absurd (omega (arith, lt))
clamped_value (p ∷ more) x lt = refl

-- ---- points that rise
steps_up : (points : List Point) (i n : ℕ) (d : Point) → AllAdjacentBelow (λ p q. p.x <ℚ q.x) points (length points) → i + n < length points → (get_or points i d).x ≤ℚ (get_or points (i + n) d).x
steps_up points i zero d rising lt =
    let same : i ≡ i + 0 = omega arith in
    subst (λ k. (get_or points i d).x ≤ℚ (get_or points k d).x) same (order-reflexive (get_or points i d).x)
steps_up points i (suc n) d rising lt =
    let here = steps_up points i n d rising (omega (arith, lt)) in
    let one : (get_or points (i + n) d).x <ℚ (get_or points (i + n + 1) d).x = rising (i + n) d (omega (arith, lt)) in
    let same : i + n + 1 ≡ i + suc n = omega arith in
    subst (λ k. (get_or points i d).x ≤ℚ (get_or points k d).x) same (order-transitive _ _ _ here (order-below_is_at_most _ _ one))

pub at_most : (points : List Point) (i j : ℕ) (d : Point) → IsPointList points → i ≤ j → j < length points → (get_or points i d).x ≤ℚ (get_or points j d).x
at_most points i j d h le lt =
    let same : i + (j - i) ≡ j = omega (arith, le) in
    subst (λ k. (get_or points i d).x ≤ℚ (get_or points k d).x) same (steps_up points i (j - i) d h.rising (omega (arith, le, lt)))

pub below_too : (points : List Point) (x : Rational) (k middle : ℕ) (d : Point) → IsPointList points → k ≤ middle → middle < length points → less (get_or points middle d).x x ≡ true → less (get_or points k d).x x ≡ true
below_too points x k middle d h le lt is =
    (tests-less (get_or points k d).x x).1 (order-at_most_below _ _ _ (at_most points k middle d h le lt) ((tests-less (get_or points middle d).x x).0 is))

pub above_too : (points : List Point) (x : Rational) (k middle : ℕ) (d : Point) → IsPointList points → middle ≤ k → k < length points → less (get_or points middle d).x x ≡ false → less (get_or points k d).x x ≡ false
above_too points x k middle d h le lt is =
    (tests-not_less (get_or points k d).x x).1 (order-transitive _ _ _ ((tests-not_less (get_or points middle d).x x).0 is) (at_most points middle k d h le lt))

pub next_rises : (points : List Point) (place : ℕ) (d e : Point) → IsPointList points → 0 < place → place < length points → (get_or points (place - 1) d).x <ℚ (get_or points place e).x
next_rises points zero d e h some lt = absurd (omega (arith, some))
next_rises points (suc k) d e h some lt =
    let here : (get_or points k d).x <ℚ (get_or points (k + 1) d).x = h.rising k d (omega (arith, lt)) in
    let one : k + 1 ≡ suc k = omega arith in
    let back : k ≡ suc k - 1 = omega arith in
    let next : (get_or points k d).x <ℚ (get_or points (suc k) d).x = subst (λ j. (get_or points k d).x <ℚ (get_or points j d).x) one here in
    let other : (get_or points k d).x <ℚ (get_or points (suc k) e).x = subst (λ p. (get_or points k d).x <ℚ p.x) (get_or_default points (suc k) d e lt) next in
    subst (λ j. (get_or points j d).x <ℚ (get_or points (suc k) e).x) back other

-- ---- hours
pub hours_made : (seconds : ℤ) → neg_ℤ (pos 400_000_000_000) ≤ℤ seconds → seconds ≤ℤ pos 400_000_000_000 → made seconds (pos 3_600) ≡ Some (hours_of seconds)
unfolding made fitting hours_of
hours_made seconds low high = rw (lowest_terms-fits seconds 3_600 (omega arith) (omega (arith, ints, low, high)) (omega arith)) refl

-- ---- the search of the place of x
pub up_step : (points : List Point) (x : Rational) (middle : ℕ) (p : Point) → IsPointList points → middle < length points → less (get_or points middle p).x x ≡ true → (k : ℕ) (d : Point) → k < middle + 1 → less (get_or points k d).x x ≡ true
up_step points x middle p h lt here k d most =
    below_too points x k middle d h (omega (arith, most)) lt (ap (λ q. less q.x x) (sym (get_or_default points middle p d lt)) ∙ here)

pub down_step : (points : List Point) (x : Rational) (middle : ℕ) (p : Point) → IsPointList points → middle < length points → less (get_or points middle p).x x ≡ false → (k : ℕ) (d : Point) → middle ≤ k → k < length points → less (get_or points k d).x x ≡ false
down_step points x middle p h lt here k d least within =
    above_too points x k middle d h least within (ap (λ q. less q.x x) (sym (get_or_default points middle p d lt)) ∙ here)

-- for the value at the place of x
pub ruleset placed = (at_first, at_last, at_place, next_rises)
