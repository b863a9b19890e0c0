use Rattle.std.proofs.Common.{refl}
use Rattle.std.specs.Fmt.{digits}
use Rattle.jiff_core.specs.Calendar.{days_of_months}
use Rattle.num_text.specs.CivilDays.{year_at, place_at, months_before, month_at, day_at}
use Rattle.num_text.specs.Written.{places, written_moment}
use Rattle.model_generator.specs.InputFile.{numbered, rule_text}
use Rattle.model_generator.proofs.examples.one_pump.Goals as goal

pub returns : goal.returns
unfolding digits places written_moment year_at place_at months_before month_at day_at days_of_months numbered rule_text
returns c = record { input = refl }
