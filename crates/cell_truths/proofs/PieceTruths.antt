-- A comparison of a key with a number is decided where the number lies beside the key's piece.
use Rattle.std.proofs.Common.{◌≡◌, Bool, true, false, not, ◌&&◌, ◌||◌, ◌⊎◌, inl, inr}
use Rattle.std.proofs.Common.{refl, sym, subst}
use Rattle.std.specs.Prelude.{IsTrue}
use Rattle.std.proofs.lemmas.Bool.{true≢false}
use Rattle.exact_fraction.specs.Number.{Rational}
use Rattle.exact_fraction.specs.Operations.{difference_of, sum_of}
use Rattle.exact_fraction.specs.Order.{less}
use Rattle.exact_fraction.specs.declared.relation.Relation.{Relation}
use Rattle.exact_fraction.specs.declared.relation.Relation.TheVariants.{Eq, Ne, Lt, Le, Gt, Ge}
use Rattle.interval_sets.specs.declared.interval.Interval.{Interval}
use Rattle.interval_sets.specs.Intervals.{point_of}
use Rattle.rule_types.specs.declared.condition.Condition.{Condition}
use Rattle.rule_types.specs.WellFormed.{is_equality}
use Rattle.rule_meaning.specs.Condition.{half_of, hours_of_step}
use Rattle.verdict_meaning.specs.declared.truth.Reach.TheVariants.{Within}
use Rattle.verdict_meaning.specs.declared.truth.Truth.{Truth}
use Rattle.verdict_meaning.specs.Grids.{gap_of, number_cuts}
use Rattle.verdict_meaning.specs.Shown.{is_no, is_yes}
use Rattle.verdict_meaning.specs.Truths.{all_meet, all_relate, all_times_relate, all_within}
use Rattle.verdict_meaning.specs.Truths.{by_tests, ends_at_most, ends_below, none_meet}
use Rattle.verdict_meaning.specs.Truths.{none_within, reach_truth}
use Rattle.cell_truths.proofs.CutPieces.{IsBeside, IsPieceBeside}
use Rattle.cell_truths.proofs.Lists.{Among, or_right}

-- what is known is Yes or No
abbrev pub IsDecided : Truth → Type 0
IsDecided t = (is_yes t || is_no t) ≡ true

pub tests_decided : (none all : Bool) → (none || all) ≡ true → IsDecided (by_tests none all true)
tests_decided true all h = refl
tests_decided false true h = refl
tests_decided false false h = h

-- ---- a point
abbrev Meets : Bool → Relation → Rational → Interval → Rational → Type 0
Meets half_step relation step piece q =
    (none_meet half_step relation step piece (point_of q)
    || all_meet half_step relation step piece (point_of q)) ≡ true

apart_or_same : (a b : Bool) → ((a || b) || (not b && not a)) ≡ true
apart_or_same true b = refl
apart_or_same false true = refl
apart_or_same false false = refl

same_or_apart : (a b : Bool) → ((not b && not a) || (a || b)) ≡ true
same_or_apart true true = refl
same_or_apart true false = refl
same_or_apart false true = refl
same_or_apart false false = refl

not_or : (a : Bool) → (not a || a) ≡ true
not_or true = refl
not_or false = refl

or_not : (a : Bool) → (a || not a) ≡ true
or_not true = refl
or_not false = refl

outside_or_within : (a b : Bool) → ((a || not b) || (not a && b)) ≡ true
outside_or_within true b = refl
outside_or_within false true = refl
outside_or_within false false = refl

within_or_outside : (a b : Bool) → ((not a && b) || (a || not b)) ≡ true
within_or_outside true true = refl
within_or_outside true false = refl
within_or_outside false true = refl
within_or_outside false false = refl

point_exact : (relation : Relation) (p q : Rational)
    → Meets false relation p (point_of p) q
unfolding none_meet all_meet all_relate ends_below ends_at_most
point_exact Eq p q = apart_or_same (less p q) (less q p)
point_exact Ne p q = same_or_apart (less p q) (less q p)
point_exact Lt p q = not_or (less p q)
point_exact Le p q = or_not (less q p)
point_exact Gt p q = not_or (less q p)
point_exact Ge p q = or_not (less p q)

pub point_meets : (half_step : Bool) (relation : Relation) (step p q : Rational)
    → Meets half_step relation step (point_of p) q
unfolding none_meet all_meet all_times_relate all_relate all_within none_within ends_below
    ends_at_most
point_meets false relation step p q = point_exact relation p q
point_meets true Eq step p q =
    outside_or_within (less p (difference_of q (half_of step))) (less p (sum_of q (half_of step)))
point_meets true Ne step p q =
    within_or_outside (less p (difference_of q (half_of step))) (less p (sum_of q (half_of step)))
point_meets true Lt step p q = not_or (less p q)
point_meets true Le step p q = or_not (less q p)
point_meets true Gt step p q = not_or (less q p)
point_meets true Ge step p q = or_not (less p q)

-- ---- a gap
-- of two tests one fails
either_fails : (a b : Bool) → (a ≡ false) ⊎ (b ≡ false) → (not a || not b) ≡ true
either_fails a b (inl e) = rw e refl
either_fails a b (inr e) = rw e (or_right (not a) true refl)

other_fails : (a b : Bool) → (a ≡ false) ⊎ (b ≡ false) → (not b || not a) ≡ true
other_fails a b (inl e) = rw e (or_right (not b) true refl)
other_fails a b (inr e) = rw e refl

one_then_both : (a b : Bool) → (a ≡ false) ⊎ (b ≡ false)
    → ((not b || not a) || (not b && not a)) ≡ true
one_then_both a false h = refl
one_then_both false true h = refl
one_then_both true true (inl e) = absurd (true≢false e)
one_then_both true true (inr e) = absurd (true≢false e)

both_then_one : (a b : Bool) → (a ≡ false) ⊎ (b ≡ false)
    → ((not b && not a) || (not b || not a)) ≡ true
both_then_one false false h = refl
both_then_one true false h = refl
both_then_one false true h = refl
both_then_one true true (inl e) = absurd (true≢false e)
both_then_one true true (inr e) = absurd (true≢false e)

gap_exact : (relation : Relation) (step p q c : Rational) → IsBeside p q c
    → Meets false relation step (gap_of p q) c
unfolding none_meet all_meet all_relate ends_below ends_at_most
gap_exact Eq step p q c h = one_then_both (less p c) (less c q) h
gap_exact Ne step p q c h = both_then_one (less p c) (less c q) h
gap_exact Lt step p q c h = either_fails (less p c) (less c q) h
gap_exact Le step p q c h = either_fails (less p c) (less c q) h
gap_exact Gt step p q c h = other_fails (less p c) (less c q) h
gap_exact Ge step p q c h = other_fails (less p c) (less c q) h

outside_then_within : (a b d e : Bool) → (a ≡ false) ⊎ (b ≡ false) → (d ≡ false) ⊎ (e ≡ false)
    → ((not b || not d) || (not a && not e)) ≡ true
outside_then_within a false d e h k = refl
outside_then_within a true false e h k = refl
outside_then_within a true true e (inl h) (inr k) = rw (h, k) refl
outside_then_within a true true e (inr h) k = absurd (true≢false h)
outside_then_within a true true e (inl h) (inl k) = absurd (true≢false k)

within_then_outside : (a b d e : Bool) → (a ≡ false) ⊎ (b ≡ false) → (d ≡ false) ⊎ (e ≡ false)
    → ((not a && not e) || (not b || not d)) ≡ true
within_then_outside a false d e h k = or_right (not a && not e) true refl
within_then_outside a true false e h k = or_right (not a && not e) true refl
within_then_outside a true true e (inl h) (inr k) = rw (h, k) refl
within_then_outside a true true e (inr h) k = absurd (true≢false h)
within_then_outside a true true e (inl h) (inl k) = absurd (true≢false k)

gap_within : (relation : Relation) (half p q c : Rational) (step : Rational)
    → half ≡ half_of step → is_equality relation ≡ true
    → IsBeside p q (difference_of c half) → IsBeside p q (sum_of c half)
    → Meets true relation step (gap_of p q) c
unfolding none_meet all_meet all_times_relate all_within none_within ends_below ends_at_most
gap_within Eq half p q c step is e h k =
    subst
    (λ n.
    ((not (less (difference_of c n) q) || not (less p (sum_of c n)))
    || (not (less p (difference_of c n)) && not (less (sum_of c n) q))) ≡ true)
    is
    (outside_then_within (less p (difference_of c half)) (less (difference_of c half) q)
    (less p (sum_of c half)) (less (sum_of c half) q) h k)
gap_within Ne half p q c step is e h k =
    subst
    (λ n.
    ((not (less p (difference_of c n)) && not (less (sum_of c n) q))
    || (not (less (difference_of c n) q) || not (less p (sum_of c n)))) ≡ true)
    is
    (within_then_outside (less p (difference_of c half)) (less (difference_of c half) q)
    (less p (sum_of c half)) (less (sum_of c half) q) h k)
gap_within Lt half p q c step is e h k = absurd (true≢false (sym e))
gap_within Le half p q c step is e h k = absurd (true≢false (sym e))
gap_within Gt half p q c step is e h k = absurd (true≢false (sym e))
gap_within Ge half p q c step is e h k = absurd (true≢false (sym e))

gap_meets : (half_step : Bool) (relation : Relation) (step p q c : Rational)
    → (IsTrue half_step → IsTrue (is_equality relation))
    → ((n : Rational) → Among (number_cuts half_step step c) n → IsBeside p q n)
    → Meets half_step relation (hours_of_step step) (gap_of p q) c
gap_meets false relation step p q c equality beside =
    gap_exact relation (hours_of_step step) p q c (beside c (inl refl))
gap_meets true relation step p q c equality beside =
    let half = half_of (hours_of_step step) in
    gap_within relation half p q c (hours_of_step step) refl (equality refl)
    (beside (difference_of c half) (inl refl)) (beside (sum_of c half) (inr (inl refl)))

-- ---- pieces
piece_meets : (half_step : Bool) (relation : Relation) (step c : Rational) (piece : Interval)
    → (IsTrue half_step → IsTrue (is_equality relation))
    → IsPieceBeside (Among (number_cuts half_step step c)) piece
    → Meets half_step relation (hours_of_step step) piece c
piece_meets half_step relation step c piece equality (inl point) =
    subst (λ one. Meets half_step relation (hours_of_step step) one c) (sym point.1)
    (point_meets half_step relation (hours_of_step step) point.0 c)
piece_meets half_step relation step c piece equality (inr gap) =
    subst (λ one. Meets half_step relation (hours_of_step step) one c) (sym gap.is)
    (gap_meets half_step relation step gap.low gap.high c equality gap.beside)

pub piece_decided : (c : Condition) (step q : Rational) (piece : Interval)
    → (IsTrue c.half_step → IsTrue (is_equality c.rel))
    → IsPieceBeside (Among (number_cuts c.half_step step q)) piece
    → IsDecided (reach_truth c (hours_of_step step) (Within true piece) (Within true (point_of q)))
piece_decided c step q piece equality beside =
    tests_decided (none_meet c.half_step c.rel (hours_of_step step) piece (point_of q))
    (all_meet c.half_step c.rel (hours_of_step step) piece (point_of q))
    (piece_meets c.half_step c.rel step q piece equality beside)

pub point_decided : (c : Condition) (step p q : Rational)
    → IsDecided (reach_truth c step (Within true (point_of p)) (Within true (point_of q)))
point_decided c step p q =
    tests_decided (none_meet c.half_step c.rel step (point_of p) (point_of q))
    (all_meet c.half_step c.rel step (point_of p) (point_of q))
    (point_meets c.half_step c.rel step p q)
