-- The definitions compute the examples.
use Rattle.std.proofs.Common.{refl}
use Rattle.exact_fraction.specs.Number.{den, last_remainder, gcd, cancelled, ratio, whole, fits}
use Rattle.exact_fraction.specs.Operations.{sum_of, difference_of, product_of, quotient_of}
use Rattle.exact_fraction.specs.Operations.{quotient_parts, nearest_whole, round9_of}
use Rattle.exact_fraction.specs.Checked.{fitting, made, checked, is_zero, checked_quotient}
use Rattle.exact_fraction.specs.Moments.{moment_at}
use Rattle.exact_fraction.proofs.laws.examples.Goals as goal

pub returns-clause-cancelled : goal.returns-clause-cancelled
unfolding den last_remainder gcd cancelled ratio whole fits made fitting
returns-clause-cancelled c = refl

pub returns-clause-below_one : goal.returns-clause-below_one
unfolding den last_remainder gcd cancelled ratio whole fits made fitting
returns-clause-below_one c = refl

pub returns-clause-too_large : goal.returns-clause-too_large
unfolding den last_remainder gcd cancelled ratio whole fits made fitting
returns-clause-too_large c = refl

pub returns-clause-too_low : goal.returns-clause-too_low
unfolding den last_remainder gcd cancelled ratio whole fits made fitting
returns-clause-too_low c = refl

pub returns-clause-wide : goal.returns-clause-wide
unfolding den last_remainder gcd cancelled ratio whole fits made fitting
returns-clause-wide c = refl

pub returns-clause-sum : goal.returns-clause-sum
unfolding den last_remainder gcd cancelled ratio whole fits checked sum_of
returns-clause-sum c = refl

pub returns-clause-overflow : goal.returns-clause-overflow
unfolding den last_remainder gcd cancelled ratio whole fits checked sum_of
returns-clause-overflow c = refl

pub returns-clause-difference : goal.returns-clause-difference
unfolding den last_remainder gcd cancelled ratio whole fits difference_of
returns-clause-difference c = refl

pub returns-clause-product : goal.returns-clause-product
unfolding den last_remainder gcd cancelled ratio whole fits product_of
returns-clause-product c = refl

pub returns-clause-quotient : goal.returns-clause-quotient
unfolding den last_remainder gcd cancelled ratio whole fits quotient_of quotient_parts
returns-clause-quotient c = refl

pub returns-clause-zero_divisor : goal.returns-clause-zero_divisor
unfolding den last_remainder gcd cancelled ratio whole fits checked_quotient is_zero
returns-clause-zero_divisor c = refl

pub returns-clause-rounded : goal.returns-clause-rounded
unfolding den last_remainder gcd cancelled ratio whole fits round9_of nearest_whole
returns-clause-rounded c = refl

pub returns-clause-rounded_away : goal.returns-clause-rounded_away
unfolding den last_remainder gcd cancelled ratio whole fits round9_of nearest_whole
returns-clause-rounded_away c = refl

pub returns-clause-halfway : goal.returns-clause-halfway
unfolding den last_remainder gcd cancelled ratio whole fits sum_of difference_of product_of quotient_of quotient_parts
returns-clause-halfway c = refl

pub returns-clause-first_moment : goal.returns-clause-first_moment
unfolding moment_at
returns-clause-first_moment c = refl

pub returns-clause-before_first : goal.returns-clause-before_first
unfolding moment_at
returns-clause-before_first c = refl

pub returns-clause-last_moment : goal.returns-clause-last_moment
unfolding moment_at
returns-clause-last_moment c = refl

pub returns-clause-after_last : goal.returns-clause-after_last
unfolding moment_at
returns-clause-after_last c = refl
