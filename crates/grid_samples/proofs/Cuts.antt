-- The cuts of a range rise and lie in it, and its pieces are parts of it.
use Rattle.std.proofs.Common.{◌≡◌, Bool, true, false, not, List, [], ◌∷◌, ◌++◌, cond, refl, sym, ◌∙◌}
use Rattle.std.specs.List.{AllByRecursion, filter}
use Rattle.std.specs.Prelude.{IsTrue}
use Rattle.exact_fraction.specs.Number.{Rational}
use Rattle.exact_fraction.specs.Order.{◌<ℚ◌, less}
use Rattle.exact_fraction.proofs.PublicLaws.{order-below_is_at_most, order-below_transitive, order-reflexive, order-same_is_at_most, tests-at_most, tests-less, tests-same}
use Rattle.interval_sets.specs.declared.interval.Bound.{Bound}
use Rattle.interval_sets.specs.declared.interval.Bound.TheVariants as end
use Rattle.interval_sets.specs.declared.interval.Interval.{Interval}
use Rattle.interval_sets.specs.Intervals.{has_member, lies_in, point_of}
use Rattle.interval_sets.proofs.PublicLaws.{intervals-convex, intervals-inside, intervals-point}
use Rattle.rule_types.specs.declared.key.Key.{Key}
use Rattle.rule_types.specs.declared.rules.Rules.{Rules}
use Rattle.verdict_meaning.specs.declared.question.Question.{Question}
use Rattle.verdict_meaning.specs.FitRanges.{AreEnds}
use Rattle.verdict_meaning.specs.Grids.{cuts_of, end_numbers, gap_of, inserted, pieces_of, rising}
use Rattle.grid_samples.specs.Covers.{IsPartOf}
use Rattle.grid_samples.proofs.Each.{each_append}

-- ---- numbers that rise
each_inserted : (P : Rational → Type 0) (q : Rational) (cuts : List Rational) → P q
    → AllByRecursion P cuts → AllByRecursion P (inserted q cuts)
unfolding inserted
each_inserted P q [] p h = (p, tt)
each_inserted P q (first ∷ cuts) p h =
    by_tests (less q first) (less first q) (each_inserted P q cuts p h.1)
  where
    by_tests : (a b : Bool) → AllByRecursion P (inserted q cuts)
        → AllByRecursion P
        (cond a (q ∷ first ∷ cuts) (cond b (first ∷ inserted q cuts) (first ∷ cuts)))
    by_tests true b later = (p, h)
    by_tests false true later = (h.0, later)
    by_tests false false later = h

each_rising : (P : Rational → Type 0) (numbers : List Rational) → AllByRecursion P numbers
    → AllByRecursion P (rising numbers)
unfolding rising
each_rising P [] h = tt
each_rising P (q ∷ more) h = each_inserted P q (rising more) h.0 (each_rising P more h.1)

Climb : List Rational → Type 0
Climb [] = Unit {0}
Climb (p ∷ more) = AllByRecursion (λ q. p <ℚ q) more × Climb more

below_all : (p q : Rational) (cuts : List Rational) → p <ℚ q → AllByRecursion (λ r. q <ℚ r) cuts
    → AllByRecursion (λ r. p <ℚ r) cuts
below_all p q [] h k = tt
below_all p q (r ∷ cuts) h k = (order-below_transitive p q r h k.0, below_all p q cuts h k.1)

climb_by : (q first : Rational) (cuts later : List Rational) (a b : Bool) → less q first ≡ a
    → less first q ≡ b → AllByRecursion (λ r. first <ℚ r) cuts → Climb cuts
    → (first <ℚ q → AllByRecursion (λ r. first <ℚ r) later) → Climb later
    → Climb (cond a (q ∷ first ∷ cuts) (cond b (first ∷ later) (first ∷ cuts)))
unfolding Climb
climb_by q first cuts later true b before after h rest above climbing =
    let under = (tests-less q first).0 before in
    ((under, below_all q first cuts under h), (h, rest))
climb_by q first cuts later false true before after h rest above climbing =
    (above ((tests-less first q).0 after), climbing)
climb_by q first cuts later false false before after h rest above climbing = (h, rest)

climb_inserted : (q : Rational) (cuts : List Rational) → Climb cuts → Climb (inserted q cuts)
unfolding inserted Climb
climb_inserted q [] h = (tt, tt)
climb_inserted q (first ∷ cuts) h =
    climb_by q first cuts (inserted q cuts) (less q first) (less first q) refl refl h.0 h.1
    (λ under. each_inserted (λ r. first <ℚ r) q cuts under h.0) (climb_inserted q cuts h.1)

climb_rising : (numbers : List Rational) → Climb (rising numbers)
unfolding rising Climb
climb_rising [] = tt
climb_rising (q ∷ more) = climb_inserted q (rising more) (climb_rising more)

-- ---- pieces
-- a piece has a number, and is part of a range
abbrev pub IsPiece : Interval → Interval → Type 0
IsPiece range piece = IsTrue (has_member piece.low piece.high) × IsPartOf piece range

not_less : (p : Rational) → IsTrue (not (less p p))
not_less p = (tests-at_most p p).1 (order-reflexive p)

point_piece : (range : Interval) (p : Rational) → IsTrue (lies_in range p)
    → IsPiece range (point_of p)
point_piece range p inside = (
  not_less p,
  λ q is. (let one = order-same_is_at_most q p
      ((tests-same q p).0 (sym (intervals-point p q) ∙ is)) in
      intervals-convex range p q p inside inside one.1 one.0),
)

gap_piece : (range : Interval) (p q : Rational) → p <ℚ q → IsTrue (lies_in range p)
    → IsTrue (lies_in range q) → IsPiece range (gap_of p q)
gap_piece range p q h low high = (
  (tests-less p q).1 h,
  λ r is. (let between = (intervals-inside (gap_of p q) r).0 is in
      intervals-convex range p r q low high (order-below_is_at_most p r between.above)
      (order-below_is_at_most r q between.below)),
)

pieces_in : (range : Interval) (cuts : List Rational) → Climb cuts
    → AllByRecursion (λ q. IsTrue (lies_in range q)) cuts
    → AllByRecursion (IsPiece range) (pieces_of cuts)
unfolding pieces_of Climb
pieces_in range [] h inside = tt
pieces_in range (p ∷ []) h inside = (point_piece range p inside.0, tt)
pieces_in range (p ∷ q ∷ more) h inside = (
  point_piece range p inside.0,
  (gap_piece range p q h.0.0 inside.0 inside.1.0, pieces_in range (q ∷ more) h.1 inside.1),
)

-- ---- the cuts of a range
filter_passes : (test : Rational → Bool) (numbers : List Rational)
    → AllByRecursion (λ q. test q ≡ true) (filter test numbers)
filter_passes test [] = tt
filter_passes test (q ∷ more) = by_test (test q) refl (filter_passes test more)
  where
    by_test : (b : Bool) → test q ≡ b → AllByRecursion (λ r. test r ≡ true) (filter test more)
        → AllByRecursion (λ r. test r ≡ true) (cond b (q ∷ filter test more) (filter test more))
    by_test true is later = (is, later)
    by_test false is later = later

ends_in : (low high : Bound) → AreEnds low high
    → AllByRecursion (λ q. IsTrue (lies_in (record { low = low; high = high }) q))
    (end_numbers low ++ end_numbers high)
ends_in (end.Bound p false) (end.Bound q false) h =
    let range : Interval = record { low = end.Bound p false; high = end.Bound q false } in (
      (intervals-inside range p).1 (record { above = order-reflexive p; below = h }),
      ((intervals-inside range q).1 (record { above = h; below = order-reflexive q }), tt),
    )
ends_in (end.Bound p false) (end.Bound q true) h = absurd h
ends_in (end.Bound p false) end.NoBound h = absurd h
ends_in (end.Bound p true) high h = absurd h
ends_in end.NoBound high h = absurd h

pub range_pieces : (x : Rules) (question : Question) (key : Key) (range : Interval)
    → AreEnds range.low range.high
    → AllByRecursion (IsPiece range) (pieces_of (cuts_of x question key range))
unfolding cuts_of
range_pieces x question key range h =
    pieces_in range _ (climb_rising _)
    (each_rising (λ q. IsTrue (lies_in range q)) _
    (each_append (λ q. IsTrue (lies_in range q)) (end_numbers range.low ++ end_numbers range.high)
    _ (ends_in range.low range.high h) (filter_passes (lies_in range) _)))
