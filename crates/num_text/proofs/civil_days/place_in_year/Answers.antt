use Rattle.std.proofs.Common.{arith}
use Rattle.num_text.proofs.Years.{IsYearOf, year_at-holds, place_within}
use Rattle.num_text.proofs.civil_days.place_in_year.Goals as goal

pub overflow_sub-before : goal.overflow_sub-before
overflow_sub-before c = rw c.requires.year (year_at-holds c.args.days).first

pub overflow_sub-result-2 : goal.overflow_sub-result-2
overflow_sub-result-2 c = rw c.requires.year (year_at-holds c.args.days).low

pub overflow_add-result-3 : goal.overflow_add-result-3
overflow_add-result-3 c =
    let known : IsYearOf c.args.days c.args.year = rw c.requires.year (year_at-holds c.args.days) in
    let place = (place_within c.args.days c.args.year known).1 in
    omega arith
