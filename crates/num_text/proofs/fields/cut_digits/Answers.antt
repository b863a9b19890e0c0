use Rattle.std.proofs.Common.{◌∙◌}
use Rattle.num_text.proofs.Digits.{leading_digits-digits}
use Rattle.num_text.proofs.fields.cut_digits.Goals as goal

pub returns-clause-digits_alone : goal.returns-clause-digits_alone
returns-clause-digits_alone c = rw (c.split_at.ensures.front ∙ c.digit_count.ensures.digits) (leading_digits-digits c.args.text.now)
