-- The order of the edges, and what it says of the fractions that are past them.
use Rattle.std.proofs.Common.{◌≡◌, Bool, true, false, not, refl, sym, ap, ◌∙◌, pos, negsuc}
use Rattle.std.proofs.lemmas.Bool.{false≢true, true≢false, not-true, not-false, not_from_false}
use Rattle.exact_fraction.specs.Number.{Rational, IsNumber, den, whole}
use Rattle.exact_fraction.specs.Number.{zero as nought}
use Rattle.exact_fraction.specs.Order.{◌≤ℚ◌, ◌<ℚ◌, less}
use Rattle.exact_fraction.specs.Operations.{sum_of, middle_of}
use Rattle.exact_fraction.proofs.PublicLaws.{order-reflexive, order-transitive, order-below_at_most, order-at_most_below, order-below_transitive, order-below_is_at_most, order-antisymmetric, order-same_is_at_most, order-dense, tests-less, tests-not_less, sums-below, sums-commutes, sums-with_zero, lowest_terms-unique}
use Rattle.interval_sets.specs.declared.edge.Edge.{Edge}
use Rattle.interval_sets.specs.declared.edge.Edge.TheVariants.{BelowAll, Before, After, AboveAll}
use Rattle.interval_sets.specs.internal.Edges.{is_past, stands_before, IsHeldEdge}

-- ---- the tests of two numbers
pub at_most_true : (p q : Rational) → not (less q p) ≡ true → p ≤ℚ q
at_most_true p q e = (tests-not_less q p).0 (not-true (less q p) e)

pub true_at_most : (p q : Rational) → p ≤ℚ q → not (less q p) ≡ true
true_at_most p q h = not_from_false (less q p) ((tests-not_less q p).1 h)

pub lt_le : (p q r : Rational) → less p q ≡ true → not (less r q) ≡ true → less p r ≡ true
lt_le p q r h k = (tests-less p r).1 (order-below_at_most p q r ((tests-less p q).0 h) (at_most_true q r k))

pub lt_lt : (p q r : Rational) → less p q ≡ true → less q r ≡ true → less p r ≡ true
lt_lt p q r h k = (tests-less p r).1 (order-below_transitive p q r ((tests-less p q).0 h) ((tests-less q r).0 k))

pub le_lt : (p q r : Rational) → not (less q p) ≡ true → less q r ≡ true → less p r ≡ true
le_lt p q r h k = (tests-less p r).1 (order-at_most_below p q r (at_most_true p q h) ((tests-less q r).0 k))

pub le_le : (p q r : Rational) → not (less q p) ≡ true → not (less r q) ≡ true → not (less r p) ≡ true
le_le p q r h k = true_at_most p r (order-transitive p q r (at_most_true p q h) (at_most_true q r k))

pub lt_weak : (p q : Rational) → less p q ≡ true → not (less q p) ≡ true
lt_weak p q h = true_at_most p q (order-below_is_at_most p q ((tests-less p q).0 h))

pub le_refl : (p : Rational) → not (less p p) ≡ true
le_refl p = true_at_most p p (order-reflexive p)

-- ---- an edge that stands before one that a fraction is past is passed too
pub past_before : (q : Rational) (e f : Edge) → stands_before e f ≡ true → is_past q f ≡ true → is_past q e ≡ true
past_before q BelowAll f h k = refl
past_before q (Before p) BelowAll h k = cc
past_before q (Before p) (Before r) h k = lt_weak p q (lt_le p r q h k)
past_before q (Before p) (After r) h k = lt_weak p q (le_lt p r q h k)
past_before q (Before p) AboveAll h k = cc
past_before q (After p) BelowAll h k = cc
past_before q (After p) (Before r) h k = lt_le p r q h k
past_before q (After p) (After r) h k = lt_lt p r q h k
past_before q (After p) AboveAll h k = cc
past_before q AboveAll BelowAll h k = cc
past_before q AboveAll (Before r) h k = cc
past_before q AboveAll (After r) h k = cc
past_before q AboveAll AboveAll h k = cc

-- ---- an edge that a fraction is past stands before one that it is not past
pub before_from_past : (q : Rational) (e f : Edge) → is_past q e ≡ true → is_past q f ≡ false → stands_before e f ≡ true
before_from_past q e BelowAll h k = cc
before_from_past q BelowAll (Before r) h k = refl
before_from_past q BelowAll (After r) h k = refl
before_from_past q BelowAll AboveAll h k = refl
before_from_past q (Before p) (Before r) h k = le_lt p q r h (not-false (less q r) k)
before_from_past q (Before p) (After r) h k = le_le p q r h (not_from_false (less r q) k)
before_from_past q (Before p) AboveAll h k = refl
before_from_past q (After p) (Before r) h k = lt_lt p q r h (not-false (less q r) k)
before_from_past q (After p) (After r) h k = lt_le p q r h (not_from_false (less r q) k)
before_from_past q (After p) AboveAll h k = refl
before_from_past q AboveAll (Before r) h k = cc
before_from_past q AboveAll (After r) h k = cc
before_from_past q AboveAll AboveAll h k = cc

-- ---- numbers below and above a number
down : less (whole (negsuc 0)) nought ≡ true
unfolding less whole den
down = refl

pub up : less nought (whole (pos 1)) ≡ true
unfolding less whole den
up = refl

pub one_less : (p : Rational) → less (sum_of (whole (negsuc 0)) p) p ≡ true
one_less p =
    let moved : sum_of (whole (negsuc 0)) p <ℚ sum_of nought p = sums-below (whole (negsuc 0)) nought p ((tests-less (whole (negsuc 0)) nought).0 down) in
    let at : sum_of nought p ≤ℚ p = rw (sums-commutes nought p) ((order-same_is_at_most (sum_of p nought) p (sums-with_zero p)).0) in
    (tests-less (sum_of (whole (negsuc 0)) p) p).1 (order-below_at_most (sum_of (whole (negsuc 0)) p) (sum_of nought p) p moved at)

pub one_more : (p : Rational) → less p (sum_of (whole (pos 1)) p) ≡ true
one_more p =
    let moved : sum_of nought p <ℚ sum_of (whole (pos 1)) p = sums-below nought (whole (pos 1)) p ((tests-less nought (whole (pos 1))).0 up) in
    let at : p ≤ℚ sum_of nought p = rw (sums-commutes nought p) ((order-same_is_at_most (sum_of p nought) p (sums-with_zero p)).1) in
    (tests-less p (sum_of (whole (pos 1)) p)).1 (order-at_most_below p (sum_of nought p) (sum_of (whole (pos 1)) p) at moved)

-- ---- between an edge and one that it stands before lies a fraction
pub record Room (e f : Edge) : Type 0 where
  pub at : Rational
  pub past : is_past at e ≡ true
  pub short : is_past at f ≡ false

pub room : (e f : Edge) → stands_before e f ≡ true → Room e f
room e BelowAll h = absurd (never e h)
  where
    never : (e : Edge) → stands_before e BelowAll ≡ true → ⊥
    never BelowAll h = cc
    never (Before p) h = cc
    never (After p) h = cc
    never AboveAll h = cc
room BelowAll (Before r) h = record { at = sum_of (whole (negsuc 0)) r; past = refl; short = ap not (one_less r) }
room BelowAll (After r) h = record { at = r; past = refl; short = not-true (less r r) (le_refl r) }
room BelowAll AboveAll h = record { at = nought; past = refl; short = refl }
room (Before p) (Before r) h = record { at = p; past = le_refl p; short = ap not h }
room (Before p) (After r) h = record { at = p; past = le_refl p; short = not-true (less r p) h }
room (Before p) AboveAll h = record { at = p; past = le_refl p; short = refl }
room (After p) (Before r) h =
    let between = order-dense p r ((tests-less p r).0 h) in
    record { at = middle_of p r; past = (tests-less p (middle_of p r)).1 between.0; short = ap not ((tests-less (middle_of p r) r).1 between.1) }
room (After p) (After r) h = record { at = r; past = h; short = not-true (less r r) (le_refl r) }
room (After p) AboveAll h = record { at = sum_of (whole (pos 1)) p; past = one_more p; short = refl }
room AboveAll (Before r) h = cc
room AboveAll (After r) h = cc
room AboveAll AboveAll h = cc

-- ---- standing before is transitive
pub before_trans : (d e f : Edge) → stands_before d e ≡ true → stands_before e f ≡ true → stands_before d f ≡ true
before_trans d e f h k =
    let here = room d e h in
    by_test (is_past here.at f) here refl
  where
    by_test : (t : Bool) (here : Room d e) → is_past here.at f ≡ t → stands_before d f ≡ true
    by_test true here p = absurd (true≢false (sym (past_before here.at e f k p) ∙ here.short))
    by_test false here p = before_from_past here.at d f here.past p

same_number : (p r : Rational) → IsNumber p → IsNumber r → less p r ≡ false → less r p ≡ false → p ≡ r
same_number p r a b h k = lowest_terms-unique p r a.lowest b.lowest (order-antisymmetric p r ((tests-not_less r p).0 k) ((tests-not_less p r).0 h))

apart : (p r : Rational) → not (less r p) ≡ false → less r p ≡ false → ⊥
apart p r h k = false≢true (sym k ∙ not-false (less r p) h)

-- ---- two edges of which neither stands before the other are one
pub same_edge : (e f : Edge) → IsHeldEdge e → IsHeldEdge f → stands_before e f ≡ false → stands_before f e ≡ false → e ≡ f
same_edge BelowAll BelowAll a b h k = refl
same_edge BelowAll (Before r) a b h k = cc
same_edge BelowAll (After r) a b h k = cc
same_edge BelowAll AboveAll a b h k = cc
same_edge (Before p) BelowAll a b h k = cc
same_edge (Before p) (Before r) a b h k = ap Before (same_number p r a b h k)
same_edge (Before p) (After r) a b h k = absurd (apart p r h k)
same_edge (Before p) AboveAll a b h k = cc
same_edge (After p) BelowAll a b h k = cc
same_edge (After p) (Before r) a b h k = absurd (apart r p k h)
same_edge (After p) (After r) a b h k = ap After (same_number p r a b h k)
same_edge (After p) AboveAll a b h k = cc
same_edge AboveAll BelowAll a b h k = cc
same_edge AboveAll (Before r) a b h k = cc
same_edge AboveAll (After r) a b h k = cc
same_edge AboveAll AboveAll a b h k = refl
