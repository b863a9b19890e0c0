use Rattle.std.proofs.Common.{refl}
use Rattle.std.specs.Fmt.{digits}
use Rattle.jiff_core.specs.Calendar.{days_of_months}
use Rattle.num_text.specs.CivilDays.{year_at, place_at, months_before, month_at, day_at}
use Rattle.num_text.specs.Written.{places, written_moment}
use Rattle.model_generator.specs.InputFile.{numbered, rule_text}
use Rattle.model_generator.proofs.examples.trace_lines.Goals as goal

pub returns-clause-header : goal.returns-clause-header
unfolding digits places written_moment year_at place_at months_before month_at day_at days_of_months numbered rule_text
returns-clause-header c = refl

pub returns-clause-two_columns : goal.returns-clause-two_columns
unfolding digits places written_moment year_at place_at months_before month_at day_at days_of_months numbered rule_text
returns-clause-two_columns c = refl

pub returns-clause-first_row : goal.returns-clause-first_row
unfolding digits places written_moment year_at place_at months_before month_at day_at days_of_months numbered rule_text
returns-clause-first_row c = refl

pub returns-clause-second_row : goal.returns-clause-second_row
unfolding digits places written_moment year_at place_at months_before month_at day_at days_of_months numbered rule_text
returns-clause-second_row c = refl

pub returns-clause-last_row : goal.returns-clause-last_row
unfolding digits places written_moment year_at place_at months_before month_at day_at days_of_months numbered rule_text
returns-clause-last_row c = refl
