use Rattle.std.proofs.Common.{refl}
use Rattle.num_text.specs.Fields.{leading_digits, past_digits, field}
use Rattle.num_text.specs.Numbers.{spelling_of, without_end_zeros, spelled, bounded, scaled}
use Rattle.exact_fraction.specs.Number.{ratio, gcd, last_remainder, cancelled, fits, den}
use Rattle.num_text.proofs.examples.no_numbers.Goals as goal

pub returns-clause-comma : goal.returns-clause-comma
unfolding spelling_of without_end_zeros leading_digits past_digits field spelled bounded scaled ratio gcd last_remainder cancelled fits den
returns-clause-comma c = refl

pub returns-clause-two_points : goal.returns-clause-two_points
unfolding spelling_of without_end_zeros leading_digits past_digits field spelled bounded scaled ratio gcd last_remainder cancelled fits den
returns-clause-two_points c = refl

pub returns-clause-point_and_power : goal.returns-clause-point_and_power
unfolding spelling_of without_end_zeros leading_digits past_digits field spelled bounded scaled ratio gcd last_remainder cancelled fits den
returns-clause-point_and_power c = refl

pub returns-clause-power_with_point : goal.returns-clause-power_with_point
unfolding spelling_of without_end_zeros leading_digits past_digits field spelled bounded scaled ratio gcd last_remainder cancelled fits den
returns-clause-power_with_point c = refl

pub returns-clause-power_of_four_digits : goal.returns-clause-power_of_four_digits
unfolding spelling_of without_end_zeros leading_digits past_digits field spelled bounded scaled ratio gcd last_remainder cancelled fits den
returns-clause-power_of_four_digits c = refl

pub returns-clause-power_without_digits : goal.returns-clause-power_without_digits
unfolding spelling_of without_end_zeros leading_digits past_digits field spelled bounded scaled ratio gcd last_remainder cancelled fits den
returns-clause-power_without_digits c = refl

pub returns-clause-power_twice : goal.returns-clause-power_twice
unfolding spelling_of without_end_zeros leading_digits past_digits field spelled bounded scaled ratio gcd last_remainder cancelled fits den
returns-clause-power_twice c = refl

pub returns-clause-two_signs : goal.returns-clause-two_signs
unfolding spelling_of without_end_zeros leading_digits past_digits field spelled bounded scaled ratio gcd last_remainder cancelled fits den
returns-clause-two_signs c = refl

pub returns-clause-sign_at_the_end : goal.returns-clause-sign_at_the_end
unfolding spelling_of without_end_zeros leading_digits past_digits field spelled bounded scaled ratio gcd last_remainder cancelled fits den
returns-clause-sign_at_the_end c = refl

pub returns-clause-space : goal.returns-clause-space
unfolding spelling_of without_end_zeros leading_digits past_digits field spelled bounded scaled ratio gcd last_remainder cancelled fits den
returns-clause-space c = refl

pub returns-clause-letter : goal.returns-clause-letter
unfolding spelling_of without_end_zeros leading_digits past_digits field spelled bounded scaled ratio gcd last_remainder cancelled fits den
returns-clause-letter c = refl

pub returns-clause-hexadecimal : goal.returns-clause-hexadecimal
unfolding spelling_of without_end_zeros leading_digits past_digits field spelled bounded scaled ratio gcd last_remainder cancelled fits den
returns-clause-hexadecimal c = refl

pub returns-clause-grouped : goal.returns-clause-grouped
unfolding spelling_of without_end_zeros leading_digits past_digits field spelled bounded scaled ratio gcd last_remainder cancelled fits den
returns-clause-grouped c = refl
