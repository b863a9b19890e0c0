-- A value on the line through points, found point by point from the first one on.
use Rattle.std.proofs.Common.{◌≡◌, ℕ, zero, suc, ◌+◌, Some, List, [], ◌∷◌, length, inl, inr, ◌⊎◌, ap, ap₂, subst, ◌∙◌, arith}
use Rattle.std.specs.Prelude.{⊤, slice_index_or}
use Rattle.std.specs.List.{slice_get, AllAdjacentBelow}
use Rattle.exact_fraction.specs.Number.{Rational}
use Rattle.exact_fraction.specs.Operations.{line_at}
use Rattle.exact_fraction.specs.Order.{◌≤ℚ◌, ◌<ℚ◌, ◌=ℚ◌}
use Rattle.exact_fraction.proofs.PublicLaws.{order-reflexive, order-total, order-antisymmetric, order-transitive, order-below_transitive, order-below_is_at_most, order-same_is_at_most, order-same_symmetric, order-same_transitive, straight_line-at_first, straight_line-at_last, straight_line-rising, straight_line-falling}
use Rattle.rule_types.specs.declared.table.Point.{Point}
use Rattle.rule_types.specs.Tables.{IsPointList}
use Rattle.rule_meaning.specs.StraightLines.{IsOnLine, UpToFirst, AtPoint, Inside, FromLast}

-- points that rise, one by one
abbrev pub Rise : Point → List Point → Type 0
Rise p [] = ⊤
Rise p (q ∷ more) = (p.x <ℚ q.x) × Rise q more

rise_from : (p : Point) (more : List Point) → AllAdjacentBelow (λ a b. a.x <ℚ b.x) (p ∷ more) (length (p ∷ more)) → Rise p more
rise_from p [] h = tt
rise_from p (q ∷ more) h = (
  h 0 p (omega arith),
  rise_from q more (λ k d k_in.
      (let next : suc k + 1 ≡ suc (k + 1) = omega arith in
      subst (λ i. (slice_index_or (q ∷ more) k d).x <ℚ (slice_index_or (p ∷ q ∷ more) i d).x) next
      (h (suc k) d (omega (arith, k_in))))),
)

pub rising : (p : Point) (more : List Point) → IsPointList (p ∷ more) → Rise p more
rising p more h = rise_from p more h.rising

-- a later point is past the first
first_below : (p : Point) (more : List Point) (place : ℕ) (a : Point) → Rise p more → slice_get more place ≡ Some a → p.x <ℚ a.x
first_below p [] place a h e = grind arith
first_below p (q ∷ more) zero a h e =
    let same : q ≡ a = grind arith in subst (λ z. p.x <ℚ z.x) same h.0
first_below p (q ∷ more) (suc place) a h e =
    order-below_transitive p.x q.x a.x h.0 (first_below q more place a h.1 e)

first_at_most : (q : Point) (more : List Point) (place : ℕ) (a : Point) → Rise q more → slice_get (q ∷ more) place ≡ Some a → q.x ≤ℚ a.x
first_at_most q more zero a h e =
    let same : q ≡ a = grind arith in subst (λ z. q.x ≤ℚ z.x) same (order-reflexive q.x)
first_at_most q more (suc place) a h e =
    order-below_is_at_most q.x a.x (first_below q more place a h e)

-- the line through two points
abbrev pub between_points : Point → Point → Rational → Rational
between_points p q x = line_at p.x p.y q.x q.y x

-- it has one value at one number
same_line : (p q : Point) (x z : Rational) → p.x <ℚ q.x → x =ℚ z → between_points p q x =ℚ between_points p q z
same_line p q x z h e =
    let both = order-same_is_at_most x z e in
    elim (order-total p.y q.y) [
      | inl up ↦ order-antisymmetric _ _ (straight_line-rising p.x p.y q.x q.y x z h up both.0) (straight_line-rising p.x p.y q.x q.y z x h up both.1)
      | inr down ↦ (let low = order-below_is_at_most q.y p.y down in
          order-antisymmetric _ _ (straight_line-falling p.x p.y q.x q.y z x h low both.1) (straight_line-falling p.x p.y q.x q.y x z h low both.0))
    ]

pub at_first : (p q : Point) (x : Rational) → p.x <ℚ q.x → x =ℚ p.x → p.y =ℚ between_points p q x
at_first p q x h e =
    order-same_symmetric _ _ (order-same_transitive _ _ _ (same_line p q x p.x h e) (straight_line-at_first p.x p.y q.x q.y h))

pub at_last : (p q : Point) (x : Rational) → p.x <ℚ q.x → x =ℚ q.x → q.y =ℚ between_points p q x
at_last p q x h e =
    order-same_symmetric _ _ (order-same_transitive _ _ _ (same_line p q x q.x h e) (straight_line-at_last p.x p.y q.x q.y h))

pub itself : (x y : Rational) → x ≡ y → x =ℚ y
itself x y e = subst (λ z. x =ℚ z) e (order-antisymmetric x x (order-reflexive x) (order-reflexive x))

-- y is on the line at x, which is the first point's x or past it
abbrev pub IsOn : Point → List Point → Rational → Rational → Type 0
IsOn p [] x y = (p.x ≤ℚ x) × (y ≡ p.y)
IsOn p (q ∷ more) x y =
    ((p.x ≤ℚ x) × (x ≤ℚ q.x) × (y =ℚ between_points p q x)) ⊎ ((q.x ≤ℚ x) × IsOn q more x y)

at_point : (p : Point) (more : List Point) (place : ℕ) (a : Point) (x y : Rational) → Rise p more → slice_get (p ∷ more) place ≡ Some a → x =ℚ a.x → y ≡ a.y → IsOn p more x y
at_point p [] zero a x y rise is at e =
    let same : a ≡ p = grind arith in
    (subst (λ z. z.x ≤ℚ x) same (order-same_is_at_most x a.x at).1, e ∙ ap (λ z. z.y) same)
at_point p [] (suc place) a x y rise is at e = absurd (grind arith)
at_point p (q ∷ more) zero a x y rise is at e =
    let same : a ≡ p = grind arith in
    let here : x =ℚ p.x = subst (λ z. x =ℚ z.x) same at in
    let both = order-same_is_at_most x p.x here in
    inl (both.1, order-transitive x p.x q.x both.0 (order-below_is_at_most p.x q.x rise.0), order-same_transitive y p.y _ (itself y p.y (e ∙ ap (λ z. z.y) same)) (at_first p q x rise.0 here))
at_point p (q ∷ more) (suc place) a x y rise is at e =
    let past = order-transitive q.x a.x x (first_at_most q more place a rise.1 is) (order-same_is_at_most x a.x at).1 in
    inr (past, at_point q more place a x y rise.1 is at e)

inside : (p : Point) (more : List Point) (place : ℕ) (a b : Point) (x y : Rational) → Rise p more → slice_get (p ∷ more) place ≡ Some a → slice_get (p ∷ more) (suc place) ≡ Some b → a.x <ℚ x → x <ℚ b.x → y ≡ between_points a b x → IsOn p more x y
inside p [] zero a b x y rise is next low high e = absurd (grind arith)
inside p [] (suc place) a b x y rise is next low high e = absurd (grind arith)
inside p (q ∷ more) zero a b x y rise is next low high e =
    let one : a ≡ p = grind arith in
    let two : b ≡ q = grind arith in
    inl (order-below_is_at_most p.x x (subst (λ z. z.x <ℚ x) one low), order-below_is_at_most x q.x (subst (λ z. x <ℚ z.x) two high), itself y _ (e ∙ ap₂ (λ u v. between_points u v x) one two))
inside p (q ∷ more) (suc place) a b x y rise is next low high e =
    let past = order-transitive q.x a.x x (first_at_most q more place a rise.1 is) (order-below_is_at_most a.x x low) in
    inr (past, inside q more place a b x y rise.1 is next low high e)

from_last : (p : Point) (more : List Point) (place : ℕ) (a : Point) (x y : Rational) → Rise p more → slice_get (p ∷ more) place ≡ Some a → suc place ≡ length (p ∷ more) → a.x ≤ℚ x → y ≡ a.y → IsOn p more x y
from_last p [] zero a x y rise is last low e =
    let same : a ≡ p = grind arith in
    (subst (λ z. z.x ≤ℚ x) same low, e ∙ ap (λ z. z.y) same)
from_last p [] (suc place) a x y rise is last low e = absurd (grind arith)
from_last p (q ∷ more) zero a x y rise is last low e = absurd (omega (arith, last))
from_last p (q ∷ more) (suc place) a x y rise is last low e =
    inr (order-transitive q.x a.x x (first_at_most q more place a rise.1 is) low, from_last q more place a x y rise.1 is (omega (arith, last)) low e)

-- a value on the line is that of the first point, up to it, or one that is found from it on
pub on_line : (p : Point) (more : List Point) (x y : Rational) → Rise p more → IsOnLine (p ∷ more) x y → ((x ≤ℚ p.x) × (y ≡ p.y)) ⊎ IsOn p more x y
on_line p more x y rise (UpToFirst a is low e) =
    let same : a ≡ p = grind arith in
    inl (subst (λ z. x ≤ℚ z.x) same low, e ∙ ap (λ z. z.y) same)
on_line p more x y rise (AtPoint place a is at e) = inr (at_point p more place a x y rise is at e)
on_line p more x y rise (Inside place a b is next low high e) = inr (inside p more place a b x y rise is next low high e)
on_line p more x y rise (FromLast place a is last low e) = inr (from_last p more place a x y rise is last low e)
