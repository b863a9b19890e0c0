-- Two ends on one side of 0 are not 0.
use Rattle.std.proofs.Common.{◌≡◌, true, false, ◌&&◌, ◌||◌, ◌⊎◌, inl, inr}
use Rattle.std.specs.Prelude.{IsTrue}
use Rattle.std.proofs.lemmas.Bool.{and_parts, or_cases}
use Rattle.exact_fraction.specs.Checked.{is_zero}
use Rattle.exact_fraction.specs.Number.{Rational, zero}
use Rattle.exact_fraction.specs.Order.{less}
use Rattle.exact_fraction.proofs.PublicLaws.{tests-above_zero, tests-below_zero, tests-less}
use Rattle.verdict_meaning.specs.Hulls.{on_one_side}

first_by : (r s : Rational) → ((less zero r && less zero s) ≡ true)
    ⊎ ((less r zero && less s zero) ≡ true) → is_zero r ≡ false
first_by r s (inl h) =
    tests-above_zero r ((tests-less zero r).0 (and_parts (less zero r) (less zero s) h).0)
first_by r s (inr h) =
    tests-below_zero r ((tests-less r zero).0 (and_parts (less r zero) (less s zero) h).0)

last_by : (r s : Rational) → ((less zero r && less zero s) ≡ true)
    ⊎ ((less r zero && less s zero) ≡ true) → is_zero s ≡ false
last_by r s (inl h) =
    tests-above_zero s ((tests-less zero s).0 (and_parts (less zero r) (less zero s) h).1)
last_by r s (inr h) =
    tests-below_zero s ((tests-less s zero).0 (and_parts (less r zero) (less s zero) h).1)

pub first_divides : (r s : Rational)
    → ((less zero r && less zero s) || (less r zero && less s zero)) ≡ true → is_zero r ≡ false
first_divides r s h =
    first_by r s (or_cases (less zero r && less zero s) (less r zero && less s zero) h)

pub last_divides : (r s : Rational)
    → ((less zero r && less zero s) || (less r zero && less s zero)) ≡ true → is_zero s ≡ false
last_divides r s h =
    last_by r s (or_cases (less zero r && less zero s) (less r zero && less s zero) h)
