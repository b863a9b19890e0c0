use Rattle.std.proofs.Common.{refl}
use Rattle.csv.specs.Machine.{next_record}
use Rattle.csv.specs.Reading.{strip_bom}
use Rattle.exact_fraction.specs.Number.{ratio, gcd, last_remainder, cancelled, den, whole, fits}
use Rattle.num_text.specs.Fields.{leading_digits, past_digits, field, field_below}
use Rattle.num_text.specs.Numbers.{spelling_of, spelled, bounded, scaled, without_end_zeros}
use Rattle.num_text.specs.Dates.{month_day_year, year_month_day}
use Rattle.num_text.specs.Clocks.{moment_of, clock, seconds_part}
use Rattle.trace_csv.specs.Fields.{without_end_blanks, field_input}
use Rattle.trace_csv.specs.Records.{record_of}
use Rattle.trace_csv.specs.Rows.{inputs_of, has_bad, moment_in, row_in, row_of}
use Rattle.trace_csv.proofs.June.{june}
use Rattle.trace_csv.proofs.examples.rows.Goals as goal

pub returns-clause-read : goal.returns-clause-read
unfolding row_in moment_in inputs_of has_bad without_end_blanks field_input leading_digits past_digits field spelling_of spelled bounded scaled without_end_zeros ratio gcd last_remainder cancelled den whole fits
returns-clause-read c = rw june refl

pub returns-clause-at_start : goal.returns-clause-at_start
unfolding row_in moment_in inputs_of has_bad without_end_blanks field_input leading_digits past_digits field spelling_of spelled bounded scaled without_end_zeros ratio gcd last_remainder cancelled den whole fits
returns-clause-at_start c = rw june refl

pub returns-clause-early : goal.returns-clause-early
unfolding row_in moment_in inputs_of has_bad without_end_blanks field_input leading_digits past_digits field spelling_of spelled bounded scaled without_end_zeros ratio gcd last_remainder cancelled den whole fits
returns-clause-early c = rw june refl

pub returns-clause-later_row : goal.returns-clause-later_row
unfolding row_in moment_in inputs_of has_bad without_end_blanks field_input leading_digits past_digits field spelling_of spelled bounded scaled without_end_zeros ratio gcd last_remainder cancelled den whole fits
returns-clause-later_row c = rw june refl

pub returns-clause-same_moment : goal.returns-clause-same_moment
unfolding row_in moment_in inputs_of has_bad without_end_blanks field_input leading_digits past_digits field spelling_of spelled bounded scaled without_end_zeros ratio gcd last_remainder cancelled den whole fits
returns-clause-same_moment c = rw june refl

pub returns-clause-bad_number : goal.returns-clause-bad_number
unfolding row_in moment_in inputs_of has_bad without_end_blanks field_input leading_digits past_digits field spelling_of spelled bounded scaled without_end_zeros ratio gcd last_remainder cancelled den whole fits
returns-clause-bad_number c = rw june refl

pub returns-clause-few_fields : goal.returns-clause-few_fields
unfolding row_in
returns-clause-few_fields c = refl

pub returns-clause-many_fields : goal.returns-clause-many_fields
unfolding row_in
returns-clause-many_fields c = refl

pub returns-clause-no_moment : goal.returns-clause-no_moment
unfolding row_in moment_in without_end_blanks leading_digits past_digits field field_below month_day_year year_month_day clock seconds_part moment_of
returns-clause-no_moment c = refl

pub returns-clause-no_record : goal.returns-clause-no_record
unfolding row_of record_of next_record strip_bom
returns-clause-no_record c = refl
