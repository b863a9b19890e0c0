-- The cuts of a key in a range rise.
use Rattle.std.proofs.Common.{◌≡◌, Bool, true, false, List, [], ◌∷◌, refl, arith}
use Rattle.std.specs.Prelude.{if◌then◌else◌}
use Rattle.exact_fraction.specs.Number.{Rational}
use Rattle.exact_fraction.specs.Order.{◌<ℚ◌, less}
use Rattle.exact_fraction.proofs.PublicLaws.{tests-less}
use Rattle.interval_sets.specs.declared.interval.Interval.{Interval}
use Rattle.interval_sets.specs.Cuts.{IsRising}
use Rattle.interval_sets.proofs.PublicLaws.{cuts-next, cuts-one}
use Rattle.rule_types.specs.declared.key.Key.{Key}
use Rattle.rule_types.specs.declared.rules.Rules.{Rules}
use Rattle.verdict_meaning.specs.declared.question.Question.{Question}
use Rattle.verdict_meaning.specs.Grids.{cuts_of, inserted, rising}

abbrev insert_by : Bool → Bool → Rational → Rational → List Rational → List Rational
insert_by first later q p cuts =
    if first then q ∷ p ∷ cuts else (if later then p ∷ inserted q cuts else p ∷ cuts)

-- a number behind one that is below it
behind_by : (first later : Bool) (o q p : Rational) (cuts : List Rational) → less q p ≡ first
    → less p q ≡ later → o <ℚ q → IsRising (o ∷ p ∷ cuts)
    → (p <ℚ q → IsRising (p ∷ cuts) → IsRising (p ∷ inserted q cuts))
    → IsRising (o ∷ insert_by first later q p cuts)
behind_by true later o q p cuts e f h rises ih =
    (cuts-next o q (p ∷ cuts)).1
    (h, (cuts-next q p cuts).1 ((tests-less q p).0 e, ((cuts-next o p cuts).0 rises).1))
behind_by false true o q p cuts e f h rises ih =
    let parts = (cuts-next o p cuts).0 rises in
    (cuts-next o p (inserted q cuts)).1 (parts.0, ih ((tests-less p q).0 f) parts.1)
behind_by false false o q p cuts e f h rises ih = rises

behind : (o q : Rational) (cuts : List Rational) → o <ℚ q → IsRising (o ∷ cuts)
    → IsRising (o ∷ inserted q cuts)
unfolding inserted
behind o q [] h rises = (cuts-next o q []).1 (h, cuts-one q)
behind o q (p ∷ cuts) h rises =
    behind_by (less q p) (less p q) o q p cuts refl refl h rises (behind p q cuts)

first_by : (first later : Bool) (q p : Rational) (cuts : List Rational) → less q p ≡ first
    → less p q ≡ later → IsRising (p ∷ cuts) → IsRising (insert_by first later q p cuts)
first_by true later q p cuts e f rises = (cuts-next q p cuts).1 ((tests-less q p).0 e, rises)
first_by false true q p cuts e f rises = behind p q cuts ((tests-less p q).0 f) rises
first_by false false q p cuts e f rises = rises

inserted_rise : (q : Rational) (cuts : List Rational) → IsRising cuts → IsRising (inserted q cuts)
unfolding inserted
inserted_rise q [] rises = cuts-one q
inserted_rise q (p ∷ cuts) rises = first_by (less q p) (less p q) q p cuts refl refl rises

all_rise : (numbers : List Rational) → IsRising (rising numbers)
unfolding rising
all_rise [] = λ k d within. absurd (omega (arith, within))
all_rise (q ∷ numbers) = inserted_rise q (rising numbers) (all_rise numbers)

pub cuts_rise : (x : Rules) (question : Question) (key : Key) (range : Interval)
    → IsRising (cuts_of x question key range)
unfolding cuts_of
cuts_rise x question key range = all_rise _
