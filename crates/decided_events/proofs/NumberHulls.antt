-- The hull of a number that an action orders lies from lo to hi exactly where its value does.
use Rattle.std.proofs.Common.{◌≡◌, ℕ, Bool, true, false, not, ◌&&◌, refl, sym, ap, ◌∙◌}
use Rattle.std.proofs.Common.{List}
use Rattle.std.specs.Prelude.{if◌then◌else◌}
use Rattle.std.proofs.lemmas.Bool.{and_from, not_from_false, true≢false}
use Rattle.exact_fraction.specs.Number.{Rational, one}
use Rattle.exact_fraction.specs.Order.{◌=ℚ◌, less, lesser_of}
use Rattle.exact_fraction.proofs.PublicLaws.{order-below_is_at_most, tests-less, tests-less_of_same}
use Rattle.exact_fraction.proofs.PublicLaws.{tests-not_less, tests-same, tests-same_by_less}
use Rattle.interval_sets.specs.declared.interval.Bound.TheVariants as end
use Rattle.interval_sets.specs.Intervals.{lies_in, point_of}
use Rattle.rule_types.specs.declared.action.PidMemory.{PidMemory}
use Rattle.rule_types.specs.declared.action.What.{What}
use Rattle.rule_types.specs.declared.action.What.TheVariants.{Constant, Curve, Series, Pid}
use Rattle.rule_types.specs.declared.condition.Condition.{Condition}
use Rattle.rule_types.specs.declared.rules.Rules.{Rules}
use Rattle.rule_types.specs.declared.state.State.{State}
use Rattle.rule_types.specs.Tables.{TableSet}
use Rattle.rule_types.specs.WellFormed.{has_rate}
use Rattle.rule_meaning.specs.Worth.{capped, rate_of, what_worth}
use Rattle.verdict_meaning.specs.declared.cell.Cell.{Cell}
use Rattle.verdict_meaning.specs.ActionHulls.{capped_high, capped_hull, capped_low, is_part_of}
use Rattle.verdict_meaning.specs.ActionHulls.{what_hull, worth_hull}
use Rattle.verdict_meaning.specs.Events.{is_outside}
use Rattle.verdict_meaning.specs.Hulls.{closed}
use Rattle.verdict_meaning.specs.Verdicts.{is_number}

-- neither below nor above 1 is 1
same_as_one : (q : Rational) → less q one ≡ false → less one q ≡ false → q =ℚ one
same_as_one q h g =
    (tests-same q one).0
    (tests-same_by_less q one
    ∙ and_from (not (less q one)) (not (less one q)) (not_from_false (less q one) h)
    (not_from_false (less one q) g))

not_both : (q : Rational) → less q one ≡ true → less one q ≡ true → ⊥
not_both q h g =
    true≢false
    (sym g
    ∙ (tests-not_less one q).1 (order-below_is_at_most q one ((tests-less q one).0 h)))

-- the ends of the hull on a link with a rate, where the number is below or above 1
cap_at : (q lo hi : Rational) (below above : Bool) → less q one ≡ below → less one q ≡ above
    → is_part_of
    (record {
      low = if below then end.Bound q false else end.Bound one false;
      high = if above then end.Bound one false else end.Bound q false;
    })
    lo hi
    ≡ lies_in (closed lo hi) (if below then q else one)
unfolding is_part_of
cap_at q lo hi true true h g = absurd (not_both q h g)
cap_at q lo hi true false h g = refl
cap_at q lo hi false true h g = refl
cap_at q lo hi false false h g =
    ap (λ b. not (less one lo) && not b) (tests-less_of_same q one hi (same_as_one q h g)).1

hull_by : (b : Bool) (q lo hi : Rational)
    → is_part_of
    (if b
    then record {
      low = capped_low (end.Bound q false);
      high = capped_high (end.Bound q false);
    }
    else point_of q)
    lo hi
    ≡ lies_in (closed lo hi) (if b then lesser_of one q else q)
unfolding is_part_of capped_low capped_high less
hull_by true q lo hi = cap_at q lo hi (less q one) (less one q) refl refl
hull_by false q lo hi = refl

hull_is : (rate q lo hi : Rational)
    → is_part_of (capped_hull rate (point_of q)) lo hi
    ≡ lies_in (closed lo hi) (if has_rate rate then lesser_of one q else q)
unfolding capped_hull
hull_is rate q lo hi = hull_by (has_rate rate) q lo hi

-- an action that orders a number, of which the hull does not lie from lo to hi, orders one outside
pub number_outside : (x : Rules) (tables : TableSet) (memory : ℕ → PidMemory) (s : State)
    (cell : Cell) (conditions others : List Condition) (link : ℕ) (lo hi : Rational) (what : What)
    → is_number what ≡ true
    → is_part_of (worth_hull x tables cell conditions link what) lo hi ≡ false
    → is_outside lo hi
    (capped (rate_of x link) (what_worth x tables s memory others link what)) ≡ true
unfolding what_hull worth_hull what_worth
number_outside x tables memory s cell conditions others link lo hi (Constant q) n h =
    not_from_false
    (lies_in (closed lo hi) (if has_rate (rate_of x link) then lesser_of one q else q))
    (sym (hull_is (rate_of x link) q lo hi) ∙ h)
number_outside x tables memory s cell conditions others link lo hi (Curve curve) n h =
    absurd (true≢false (sym n))
number_outside x tables memory s cell conditions others link lo hi (Series series) n h =
    absurd (true≢false (sym n))
number_outside x tables memory s cell conditions others link lo hi (Pid set number) n h =
    absurd (true≢false (sym n))
