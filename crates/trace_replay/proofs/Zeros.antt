-- Numbers that are 0: links that move at once, and links that are switched.
use Rattle.std.proofs.Common.{◌≡◌, Bool, true, false, true≢false, ◌&&◌, ◌||◌, refl, sym, ◌∙◌}
use Rattle.std.proofs.lemmas.Bool.Decides.{same_from_decides}
use Rattle.exact_fraction.specs.Number.{Rational, zero}
use Rattle.exact_fraction.specs.Order.{less, same}
use Rattle.exact_fraction.specs.Checked.{is_zero}
use Rattle.exact_fraction.proofs.PublicLaws.{tests-less, tests-same, tests-is_zero, tests-above_zero}
use Rattle.rule_meaning.specs.Movement.{moved}
use Rattle.rule_meaning.specs.Replay.{is_switch}

-- ---- the tests
pub same_zero : (q : Rational) → same q zero ≡ is_zero q
same_zero q = same_from_decides (same q zero) (is_zero q) (tests-same q zero) (tests-is_zero q)

not_below_by : (q : Rational) (b : Bool) → less zero q ≡ b → is_zero q ≡ true → b ≡ false
not_below_by q true below is = absurd (true≢false (sym is ∙ tests-above_zero q ((tests-less zero q).0 below)))
not_below_by q false below is = refl

pub not_below : (q : Rational) → is_zero q ≡ true → less zero q ≡ false
not_below q is = not_below_by q (less zero q) refl is

-- ---- a link without a rate
pub at_once : (rate gap y target : Rational) → is_zero rate ≡ true → target ≡ moved rate gap y target
unfolding moved
at_once rate gap y target is = rw (not_below rate is) refl

-- ---- a link that was closed, one that is, and one that is open all the time
switch_is : (was now : Rational) (was_closed closed above was_above : Bool)
    → is_zero was ≡ was_closed → is_zero now ≡ closed → less zero now ≡ above → less zero was ≡ was_above
    → is_switch was now ≡ ((was_closed && above) || (was_above && closed))
unfolding is_switch
switch_is was now was_closed closed above was_above a b c d =
    λ i. ((same_zero was ∙ a) i && c i) || (d i && (same_zero now ∙ b) i)

pub was_closed : (was now : Rational) → is_zero was ≡ true → less zero now ≡ is_switch was now
was_closed was now is =
    or_false (less zero now) ∙ sym (switch_is was now true (is_zero now) (less zero now) false is refl refl (not_below was is))
  where
    or_false : (b : Bool) → b ≡ (b || false)
    or_false true = refl
    or_false false = refl

pub is_closed : (was now : Rational) → is_zero was ≡ false → is_zero now ≡ true → less zero was ≡ is_switch was now
is_closed was now was_open is =
    and_true (less zero was) ∙ sym (switch_is was now false true (less zero now) (less zero was) was_open is refl refl)
  where
    and_true : (b : Bool) → b ≡ (b && true)
    and_true true = refl
    and_true false = refl

pub stays_open : (was now : Rational) → is_zero was ≡ false → is_zero now ≡ false → false ≡ is_switch was now
stays_open was now was_open is =
    and_false (less zero was) ∙ sym (switch_is was now false false (less zero now) (less zero was) was_open is refl refl)
  where
    and_false : (b : Bool) → false ≡ (b && false)
    and_false true = refl
    and_false false = refl

-- ---- a link that stays
not_switched_by : (q : Rational) (b : Bool) → is_zero q ≡ b → is_switch q q ≡ false
not_switched_by q true is = sym (was_closed q q is) ∙ not_below q is
not_switched_by q false is = sym (stays_open q q is is)

pub not_switched : (q : Rational) → is_switch q q ≡ false
not_switched q = not_switched_by q (is_zero q) refl
