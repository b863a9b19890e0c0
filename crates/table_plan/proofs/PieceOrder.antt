-- How a number's piece stands to the pieces of cuts.
use Rattle.std.proofs.Common.{◌≡◌, ℕ, zero, suc, ◌+◌, ◌-◌, ◌*◌, ◌<◌, ◌≤◌, ltb, Option, Some, None, List, [], ◌∷◌, length, refl, sym, ap, ◌∙◌, arith, slice_get, IfSome}
use Rattle.std.specs.Cmp.{ranks, nat_cmp_is}
use Rattle.std.specs.declared.cmp.Ordering.{Ordering}
use Rattle.std.specs.declared.cmp.Ordering.TheVariants.{Less, Equal, Greater}
use Rattle.std.specs.Ordering.{nat_cmp, is_lt, MatchOrdering}
use Rattle.std.proofs.lemmas.Bool.{lt-ltb, le-ltb}
use Rattle.std.proofs.lemmas.Option.{none-some, same_Some, slice_get-get_or}
use Rattle.exact_fraction.specs.Number.{Rational}
use Rattle.exact_fraction.specs.Order.{compares, less, ◌<ℚ◌, ◌=ℚ◌}
use Rattle.exact_fraction.proofs.PublicLaws.{order-apart, order-below_is_at_most, order-same_is_at_most, order-below_transitive, order-at_most_below, order-below_at_most, order-same_transitive, order-same_symmetric, tests-compares, tests-less, tests-not_less}
use Rattle.interval_sets.specs.Cuts.{IsRising}
use Rattle.interval_sets.proofs.PublicLaws.{cuts-rising, cuts-next}
use Rattle.table_plan.specs.Pieces.{piece_by, piece, IsCut}

-- ---- what a comparison gives, from the order

below_by : (x p : Rational) (o : Ordering) → compares x p ≡ o → MatchOrdering o (x <ℚ p) (x =ℚ p) (p <ℚ x) → x <ℚ p → compares x p ≡ Less
below_by x p Less is r h = is
below_by x p Equal is r h = absurd (order-apart p x (order-same_is_at_most x p r).1 h)
below_by x p Greater is r h = absurd (order-apart p x (order-below_is_at_most p x r) h)

pub below_is : (x p : Rational) → x <ℚ p → compares x p ≡ Less
below_is x p h = below_by x p (compares x p) refl (tests-compares x p) h

above_by : (x p : Rational) (o : Ordering) → compares x p ≡ o → MatchOrdering o (x <ℚ p) (x =ℚ p) (p <ℚ x) → p <ℚ x → compares x p ≡ Greater
above_by x p Less is r h = absurd (order-apart x p (order-below_is_at_most x p r) h)
above_by x p Equal is r h = absurd (order-apart x p (order-same_is_at_most x p r).0 h)
above_by x p Greater is r h = is

pub above_is : (x p : Rational) → p <ℚ x → compares x p ≡ Greater
above_is x p h = above_by x p (compares x p) refl (tests-compares x p) h

same_by : (x p : Rational) (o : Ordering) → compares x p ≡ o → MatchOrdering o (x <ℚ p) (x =ℚ p) (p <ℚ x) → x =ℚ p → compares x p ≡ Equal
same_by x p Less is r h = absurd (order-apart p x (order-same_is_at_most x p h).1 r)
same_by x p Equal is r h = is
same_by x p Greater is r h = absurd (order-apart x p (order-same_is_at_most x p h).0 r)

pub same_is : (x p : Rational) → x =ℚ p → compares x p ≡ Equal
same_is x p h = same_by x p (compares x p) refl (tests-compares x p) h

less_by : (x p : Rational) (o : Ordering) → MatchOrdering o (x <ℚ p) (x =ℚ p) (p <ℚ x) → less x p ≡ is_lt o
less_by x p Less r = (tests-less x p).1 r
less_by x p Equal r = (tests-not_less x p).1 (order-same_is_at_most x p r).1
less_by x p Greater r = (tests-not_less x p).1 (order-below_is_at_most p x r)

-- whether a number is below another, by how they compare
pub less_compares : (x p : Rational) → is_lt (compares x p) ≡ less x p
less_compares x p = sym (less_by x p (compares x p) (tests-compares x p))

-- ---- orders of numbers of pieces

shifted_by : (a b : ℕ) (o : Ordering) → MatchOrdering o (a < b) (a ≡ b) (b < a) → MatchOrdering o (suc (suc a) < suc (suc b)) (suc (suc a) ≡ suc (suc b)) (suc (suc b) < suc (suc a))
shifted_by a b Less h = omega arith
shifted_by a b Equal h = omega arith
shifted_by a b Greater h = omega arith

shifted : (a b : ℕ) → nat_cmp a b ≡ nat_cmp (suc (suc a)) (suc (suc b))
shifted a b = nat_cmp_is (suc (suc a)) (suc (suc b)) (nat_cmp a b) (shifted_by a b (nat_cmp a b) (ranks a b))

first_by : (o : Ordering) (k : ℕ) → o ≡ nat_cmp (piece_by o k) 1
first_by Less k = refl
first_by Equal k = refl
first_by Greater k = nat_cmp_is (suc (suc k)) 1 Greater (omega arith)

-- ---- the piece of a number by a cut at a place

tells_later : (c x p : Rational) (k i : ℕ) (o : Ordering) → MatchOrdering o (x <ℚ c) (x =ℚ c) (c <ℚ x) → c <ℚ p → compares x p ≡ nat_cmp k (2 * i + 1) → compares x p ≡ nat_cmp (piece_by o k) (2 * suc i + 1)
tells_later c x p k i Less r h later = below_is x p (order-below_transitive x c p r h) ∙ nat_cmp_is 0 (2 * suc i + 1) Less (omega arith)
tells_later c x p k i Equal r h later = below_is x p (order-at_most_below x c p (order-same_is_at_most x c r).0 h) ∙ nat_cmp_is 1 (2 * suc i + 1) Less (omega arith)
tells_later c x p k i Greater r h later =
    let next : suc (suc (2 * i + 1)) ≡ 2 * suc i + 1 = omega arith in
    later ∙ shifted k (2 * i + 1) ∙ ap (nat_cmp (suc (suc k))) next

pub tells : (cuts : List Rational) (x p : Rational) (i : ℕ) → IsRising cuts → slice_get cuts i ≡ Some p → compares x p ≡ nat_cmp (piece cuts x) (2 * i + 1)
unfolding piece
tells [] x p i rises at = absurd (none-some p at)
tells (c ∷ cs) x p zero rises at =
    let it : c ≡ p = same_Some c p at in
    ap (compares x) (sym it) ∙ first_by (compares x c) (piece cs x)
tells (c ∷ []) x p (suc i) rises at = absurd (none-some p at)
tells (c ∷ d ∷ cs) x p (suc i) rises at =
    tells_later c x p (piece (d ∷ cs) x) i (compares x c) (tests-compares x c)
    (cuts-rising (c ∷ d ∷ cs) rises 0 (suc i) c p (omega arith) refl at)
    (tells (d ∷ cs) x p i ((cuts-next c d cs).0 rises).1 at)

-- what one look at a cut tells
looked : (a b : ℕ) (o : Ordering) → o ≡ nat_cmp a b → MatchOrdering o (a < b) (a ≡ b) (b < a)
looked a b o is = rw is (ranks a b)

pub look_tells : (cuts : List Rational) (x : Rational) (k : ℕ) (o : Ordering) → IsRising cuts → k < length cuts → IfSome (slice_get cuts k) (λ cut. o ≡ compares x cut)
    → MatchOrdering o (piece cuts x < 2 * k + 1) (piece cuts x ≡ 2 * k + 1) (2 * k + 1 < piece cuts x)
look_tells cuts x k o rises within told = by_cut (slice_get cuts k) refl told
  where
    by_cut : (cut : Option Rational) → slice_get cuts k ≡ cut → IfSome cut (λ c. o ≡ compares x c) → MatchOrdering o (piece cuts x < 2 * k + 1) (piece cuts x ≡ 2 * k + 1) (2 * k + 1 < piece cuts x)
    by_cut None is h = absurd (none-some _ (sym is ∙ slice_get-get_or cuts k x within))
    by_cut (Some c) is h = looked (piece cuts x) (2 * k + 1) o (h ∙ tells cuts x c k rises is)

-- the piece of a cut
pub cut_piece : (cuts : List Rational) (i : ℕ) (p : Rational) → IsRising cuts → slice_get cuts i ≡ Some p → piece cuts p ≡ 2 * i + 1
cut_piece cuts i p rises at =
    let equal : Equal ≡ nat_cmp (piece cuts p) (2 * i + 1) = sym (same_is p p (record { eq = refl })) ∙ tells cuts p p i rises at in
    looked (piece cuts p) (2 * i + 1) Equal equal

pub piece_most : (cuts : List Rational) (x : Rational) → piece cuts x ≤ 2 * length cuts
unfolding piece
piece_most [] x = omega arith
piece_most (c ∷ cs) x = most_by (compares x c) (piece cs x) (length cs) (piece_most cs x)
  where
    most_by : (o : Ordering) (k n : ℕ) → k ≤ 2 * n → piece_by o k ≤ 2 * suc n
    most_by Less k n h = omega arith
    most_by Equal k n h = omega arith
    most_by Greater k n h = omega arith

-- ---- the piece of a number by the piece of a cut

point_by : (c x p : Rational) (a b i : ℕ) (o r : Ordering) → MatchOrdering o (p <ℚ c) (p =ℚ c) (c <ℚ p) → MatchOrdering r (x <ℚ c) (x =ℚ c) (c <ℚ x) → piece_by o b ≡ 2 * i + 1
    → ((j : ℕ) → b ≡ 2 * j + 1 → compares x p ≡ nat_cmp a b) → compares x p ≡ nat_cmp (piece_by r a) (piece_by o b)
point_by c x p a b i Less r g h odd later = absurd (let none : 0 ≡ 2 * i + 1 = odd in omega arith)
point_by c x p a b i Equal Less g h odd later = below_is x p (order-below_at_most x c p h (order-same_is_at_most p c g).1)
point_by c x p a b i Equal Equal g h odd later = same_is x p (order-same_transitive x c p h (order-same_symmetric p c g))
point_by c x p a b i Equal Greater g h odd later = above_is x p (order-at_most_below p c x (order-same_is_at_most p c g).0 h) ∙ nat_cmp_is (suc (suc a)) 1 Greater (omega arith)
point_by c x p a b i Greater Less g h odd later = below_is x p (order-below_transitive x c p h g) ∙ nat_cmp_is 0 (suc (suc b)) Less (omega arith)
point_by c x p a b i Greater Equal g h odd later = below_is x p (order-at_most_below x c p (order-same_is_at_most x c h).0 g) ∙ nat_cmp_is 1 (suc (suc b)) Less (omega arith)
point_by c x p a b i Greater Greater g h odd later =
    let is : suc (suc b) ≡ 2 * i + 1 = odd in
    later (i - 1) (omega arith) ∙ shifted a b

pub point_tells : (cuts : List Rational) (x p : Rational) (i : ℕ) → piece cuts p ≡ 2 * i + 1 → compares x p ≡ nat_cmp (piece cuts x) (piece cuts p)
unfolding piece
point_tells [] x p i odd = absurd (let none : 0 ≡ 2 * i + 1 = odd in omega arith)
point_tells (c ∷ cs) x p i odd =
    point_by c x p (piece cs x) (piece cs p) i (compares p c) (compares x c) (tests-compares p c) (tests-compares x c) odd
    (λ j h. point_tells cs x p j h)

left_by : (x p : Rational) (a b : ℕ) (o : Ordering) → MatchOrdering o (x <ℚ p) (x =ℚ p) (p <ℚ x) → o ≡ nat_cmp a b → less p x ≡ ltb b a
left_by x p a b Less r is = (tests-not_less p x).1 (order-below_is_at_most x p r) ∙ sym (le-ltb b a (let h = looked a b Less is in omega arith))
left_by x p a b Equal r is = (tests-not_less p x).1 (order-same_is_at_most x p r).0 ∙ sym (le-ltb b a (let h = looked a b Equal is in omega arith))
left_by x p a b Greater r is = (tests-less p x).1 r ∙ sym (lt-ltb b a (looked a b Greater is))

right_by : (x p : Rational) (a b : ℕ) (o : Ordering) → MatchOrdering o (x <ℚ p) (x =ℚ p) (p <ℚ x) → o ≡ nat_cmp a b → less x p ≡ ltb a b
right_by x p a b Less r is = (tests-less x p).1 r ∙ sym (lt-ltb a b (looked a b Less is))
right_by x p a b Equal r is = (tests-not_less x p).1 (order-same_is_at_most x p r).1 ∙ sym (le-ltb a b (let h = looked a b Equal is in omega arith))
right_by x p a b Greater r is = (tests-not_less x p).1 (order-below_is_at_most p x r) ∙ sym (le-ltb a b (let h = looked a b Greater is in omega arith))

-- a cut is below a number where its piece is below the number's, and above it likewise
pub cut_below : (cuts : List Rational) (p x : Rational) → IsCut cuts p → less p x ≡ ltb (piece cuts p) (piece cuts x)
cut_below cuts p x cut = left_by x p (piece cuts x) (piece cuts p) (compares x p) (tests-compares x p) (point_tells cuts x p cut.place cut.odd)

pub cut_above : (cuts : List Rational) (p x : Rational) → IsCut cuts p → less x p ≡ ltb (piece cuts x) (piece cuts p)
cut_above cuts p x cut = right_by x p (piece cuts x) (piece cuts p) (compares x p) (tests-compares x p) (point_tells cuts x p cut.place cut.odd)
