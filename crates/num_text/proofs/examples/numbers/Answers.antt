use Rattle.std.proofs.Common.{refl}
use Rattle.num_text.specs.Fields.{leading_digits, past_digits, field}
use Rattle.num_text.specs.Numbers.{spelling_of, without_end_zeros, spelled, bounded, scaled}
use Rattle.exact_fraction.specs.Number.{ratio, gcd, last_remainder, cancelled, fits, den}
use Rattle.num_text.proofs.examples.numbers.Goals as goal

pub returns-clause-tenth : goal.returns-clause-tenth
unfolding spelling_of without_end_zeros leading_digits past_digits field spelled bounded scaled ratio gcd last_remainder cancelled fits den
returns-clause-tenth c = refl

pub returns-clause-half : goal.returns-clause-half
unfolding spelling_of without_end_zeros leading_digits past_digits field spelled bounded scaled ratio gcd last_remainder cancelled fits den
returns-clause-half c = refl

pub returns-clause-half_by_power : goal.returns-clause-half_by_power
unfolding spelling_of without_end_zeros leading_digits past_digits field spelled bounded scaled ratio gcd last_remainder cancelled fits den
returns-clause-half_by_power c = refl

pub returns-clause-five : goal.returns-clause-five
unfolding spelling_of without_end_zeros leading_digits past_digits field spelled bounded scaled ratio gcd last_remainder cancelled fits den
returns-clause-five c = refl

pub returns-clause-three : goal.returns-clause-three
unfolding spelling_of without_end_zeros leading_digits past_digits field spelled bounded scaled ratio gcd last_remainder cancelled fits den
returns-clause-three c = refl

pub returns-clause-minus : goal.returns-clause-minus
unfolding spelling_of without_end_zeros leading_digits past_digits field spelled bounded scaled ratio gcd last_remainder cancelled fits den
returns-clause-minus c = refl

pub returns-clause-least : goal.returns-clause-least
unfolding spelling_of without_end_zeros leading_digits past_digits field spelled bounded scaled ratio gcd last_remainder cancelled fits den
returns-clause-least c = refl

pub returns-clause-least_again : goal.returns-clause-least_again
unfolding spelling_of without_end_zeros leading_digits past_digits field spelled bounded scaled ratio gcd last_remainder cancelled fits den
returns-clause-least_again c = refl

pub returns-clause-nothing : goal.returns-clause-nothing
unfolding spelling_of without_end_zeros leading_digits past_digits field spelled bounded scaled ratio gcd last_remainder cancelled fits den
returns-clause-nothing c = refl

pub returns-clause-too_small : goal.returns-clause-too_small
unfolding spelling_of without_end_zeros leading_digits past_digits field spelled bounded scaled ratio gcd last_remainder cancelled fits den
returns-clause-too_small c = refl

pub returns-clause-too_large : goal.returns-clause-too_large
unfolding spelling_of without_end_zeros leading_digits past_digits field spelled bounded scaled ratio gcd last_remainder cancelled fits den
returns-clause-too_large c = refl

pub returns-clause-largest : goal.returns-clause-largest
unfolding spelling_of without_end_zeros leading_digits past_digits field spelled bounded scaled ratio gcd last_remainder cancelled fits den
returns-clause-largest c = refl

pub returns-clause-sign_alone : goal.returns-clause-sign_alone
unfolding spelling_of without_end_zeros leading_digits past_digits field spelled bounded scaled ratio gcd last_remainder cancelled fits den
returns-clause-sign_alone c = refl

pub returns-clause-point_alone : goal.returns-clause-point_alone
unfolding spelling_of without_end_zeros leading_digits past_digits field spelled bounded scaled ratio gcd last_remainder cancelled fits den
returns-clause-point_alone c = refl

pub returns-clause-no_exponent : goal.returns-clause-no_exponent
unfolding spelling_of without_end_zeros leading_digits past_digits field spelled bounded scaled ratio gcd last_remainder cancelled fits den
returns-clause-no_exponent c = refl

pub returns-clause-empty : goal.returns-clause-empty
unfolding spelling_of without_end_zeros leading_digits past_digits field spelled bounded scaled ratio gcd last_remainder cancelled fits den
returns-clause-empty c = refl

pub returns-clause-all_parts : goal.returns-clause-all_parts
unfolding spelling_of without_end_zeros leading_digits past_digits field spelled bounded scaled ratio gcd last_remainder cancelled fits den
returns-clause-all_parts c = refl

pub returns-clause-point_and_power : goal.returns-clause-point_and_power
unfolding spelling_of without_end_zeros leading_digits past_digits field spelled bounded scaled ratio gcd last_remainder cancelled fits den
returns-clause-point_and_power c = refl

pub returns-clause-power_of_zeros : goal.returns-clause-power_of_zeros
unfolding spelling_of without_end_zeros leading_digits past_digits field spelled bounded scaled ratio gcd last_remainder cancelled fits den
returns-clause-power_of_zeros c = refl
