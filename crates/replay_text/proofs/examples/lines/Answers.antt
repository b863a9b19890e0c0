use Rattle.std.proofs.Common.{refl}
use Rattle.std.specs.Fmt.{digits}
use Rattle.jiff_core.specs.Calendar.{days_of_months}
use Rattle.exact_fraction.specs.Number.{den, whole}
use Rattle.num_text.specs.CivilDays.{year_at, place_at, months_before, month_at, day_at}
use Rattle.num_text.specs.Numbers.{without_end_zeros}
use Rattle.num_text.specs.Values.{written_value, written_size, written_units}
use Rattle.num_text.specs.Written.{places, written_moment}
use Rattle.replay_text.specs.Lines.{written_name, header_line, row_line}
use Rattle.replay_text.proofs.examples.lines.Goals as goal

pub returns-clause-plain : goal.returns-clause-plain
unfolding digits den whole days_of_months year_at place_at months_before month_at day_at without_end_zeros written_value written_size written_units places written_moment written_name header_line row_line
returns-clause-plain c = refl

pub returns-clause-comma : goal.returns-clause-comma
unfolding digits den whole days_of_months year_at place_at months_before month_at day_at without_end_zeros written_value written_size written_units places written_moment written_name header_line row_line
returns-clause-comma c = refl

pub returns-clause-quote : goal.returns-clause-quote
unfolding digits den whole days_of_months year_at place_at months_before month_at day_at without_end_zeros written_value written_size written_units places written_moment written_name header_line row_line
returns-clause-quote c = refl

pub returns-clause-header : goal.returns-clause-header
unfolding digits den whole days_of_months year_at place_at months_before month_at day_at without_end_zeros written_value written_size written_units places written_moment written_name header_line row_line
returns-clause-header c = refl

pub returns-clause-row : goal.returns-clause-row
unfolding digits den whole days_of_months year_at place_at months_before month_at day_at without_end_zeros written_value written_size written_units places written_moment written_name header_line row_line
returns-clause-row c = refl
