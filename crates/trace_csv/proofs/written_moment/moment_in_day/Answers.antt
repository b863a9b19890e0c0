use Rattle.std.proofs.Common.{ℕ, ap, ◌∙◌, ◌%◌, pos, ◌+ℤ◌, ◌-ℤ◌}
use Rattle.exact_fraction.specs.Moments.{moment_at}
use Rattle.trace_csv.proofs.SameDay.{if_made}
use Rattle.trace_csv.proofs.written_moment.moment_in_day.Goals as goal

pub returns-clause-written : goal.returns-clause-written
returns-clause-written c =
    if_made c.args.moment c.args.second c.moved.result c.seconds_after_first-since_midnight.ensures.known c.requires.in_day
    (c.moved.ensures.value
    ∙ ap (λ (n : ℕ). moment_at (c.args.moment -ℤ pos (n % 86_400) +ℤ pos c.args.second)) c.seconds_after_first-since_midnight.ensures.value)
