use Rattle.std.proofs.Common.{rules, ◌≡◌, length, get_or, arith}
use Rattle.trace_csv.proofs.SameDay.{time_text_is}
use Rattle.trace_csv.proofs.written_moment.second_of_day.Goals as goal

pub returns-clause-written : goal.returns-clause-written
returns-clause-written c =
    let long : length c.args.text.now ≡ 8 = omega (arith, c.in-len8.len_at_least, c.in-len8.len_below) in
    let colon : get_or c.args.text.now 2 0 ≡ 58 = search rules in
    let other : get_or c.args.text.now 5 0 ≡ 58 = search rules in
    time_text_is c.in_ok-hour.hour c.in_ok-minute.minute c.in_ok-second.second c.args.text.now long colon other
    c.in_ok-minute.ensures.below c.in_ok-second.ensures.below
    c.in_ok-hour.ensures.written c.in_ok-minute.ensures.written c.in_ok-second.ensures.written
