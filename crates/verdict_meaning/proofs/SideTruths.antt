-- What is known of the two sides of a condition tells what is known of it.
use Rattle.std.proofs.Common.{◌≡◌, Bool, true, false, ◌&&◌, Option, Some, None, refl, sym, arith}
use Rattle.std.specs.Prelude.{IsTrue, IfSome, if◌then◌else◌}
use Rattle.std.proofs.lemmas.Bool.{and_parts, true≢false}
use Rattle.exact_fraction.specs.Number.{Rational}
use Rattle.interval_sets.specs.declared.interval.Interval.{Interval}
use Rattle.interval_sets.specs.Intervals.{lies_in}
use Rattle.rule_types.specs.declared.condition.Condition.{Condition}
use Rattle.rule_meaning.specs.Condition.{both_meet, meets}
use Rattle.verdict_meaning.specs.declared.truth.Reach.{Reach}
use Rattle.verdict_meaning.specs.declared.truth.Reach.TheVariants.{Missing, Within}
use Rattle.verdict_meaning.specs.declared.truth.Truth.TheVariants.{Yes, No, Open}
use Rattle.verdict_meaning.specs.Premises.{Tells}
use Rattle.verdict_meaning.specs.Reaches.{IsReached}
use Rattle.verdict_meaning.specs.Truths.{all_meet, by_tests, none_meet, reach_truth}
use Rattle.verdict_meaning.proofs.Relations.{all_tells, none_tells}

all_hold : (c : Condition) (step : Rational) (a b : Interval) (p q : Rational)
    → all_meet c.half_step c.rel step a b ≡ true → IsTrue (lies_in a p) → IsTrue (lies_in b q)
    → meets c step p q ≡ true
unfolding meets
all_hold c step a b p q h i j = all_tells c.half_step c.rel step a b p q h i j

none_hold : (c : Condition) (step : Rational) (a b : Interval) (p q : Rational)
    → none_meet c.half_step c.rel step a b ≡ true → IsTrue (lies_in a p) → IsTrue (lies_in b q)
    → meets c step p q ≡ false
unfolding meets
none_hold c step a b p q h i j = none_tells c.half_step c.rel step a b p q h i j

-- both sides have a value
both_by : (c : Condition) (step : Rational) (a b : Interval) (p q : Rational) (sure none all : Bool)
    → none_meet c.half_step c.rel step a b ≡ none → all_meet c.half_step c.rel step a b ≡ all
    → IsTrue (lies_in a p) → IsTrue (lies_in b q)
    → Tells (by_tests none all sure) (meets c step p q)
both_by c step a b p q sure true all n e i j = none_hold c step a b p q n i j
both_by c step a b p q true false true n e i j = all_hold c step a b p q e i j
both_by c step a b p q false false true n e i j = tt
both_by c step a b p q sure false false n e i j = tt

-- one side has none
one_by : (none all sure : Bool) → (sure ≡ false) → Tells (by_tests none all sure) false
one_by true all sure e = refl
one_by false true true e = absurd (true≢false e)
one_by false true false e = tt
one_by false false sure e = tt

not_both : (sure certain : Bool) → certain ≡ false → (sure && certain) ≡ false
not_both true certain e = e
not_both false certain e = refl

missing_left : (c : Condition) (step : Rational) (o r : Option Rational) → o ≡ None
    → both_meet c step o r ≡ false
missing_left c step None r h = refl
missing_left c step (Some p) r h = grind (arith)

missing_right : (c : Condition) (step : Rational) (o r : Option Rational) → r ≡ None
    → both_meet c step o r ≡ false
missing_right c step None r h = refl
missing_right c step (Some p) None h = refl
missing_right c step (Some p) (Some q) h = grind (arith)

pub sides_tell : (c : Condition) (step : Rational) (left right : Reach) (o r : Option Rational)
    → IsReached left o → IsReached right r
    → Tells (reach_truth c step left right) (both_meet c step o r)
sides_tell c step Missing right o r h g = missing_left c step o r h
sides_tell c step (Within sure a) Missing o r h g = missing_right c step o r g
sides_tell c step (Within sure a) (Within certain b) (Some p) (Some q) h g =
    both_by c step a b p q (sure && certain) (none_meet c.half_step c.rel step a b)
    (all_meet c.half_step c.rel step a b) refl refl h g
sides_tell c step (Within sure a) (Within certain b) (Some p) None h g =
    one_by (none_meet c.half_step c.rel step a b) (all_meet c.half_step c.rel step a b)
    (sure && certain) (not_both sure certain g)
sides_tell c step (Within sure a) (Within certain b) None r h g =
    one_by (none_meet c.half_step c.rel step a b) (all_meet c.half_step c.rel step a b)
    (sure && certain) (rw h refl)
