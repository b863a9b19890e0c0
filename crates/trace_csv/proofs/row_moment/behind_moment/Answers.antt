use Rattle.std.proofs.Common.{rules, ◌≡◌, ◌-◌, take, drop, length, get_or}
use Rattle.num_text.specs.Written.{written_moment}
use Rattle.trace_csv.proofs.WrittenFields.{joined_written, headed}
use Rattle.trace_csv.proofs.row_moment.behind_moment.Goals as goal

pub returns-clause-joined : goal.returns-clause-joined
returns-clause-joined c =
    let front : c.split_at.result.0.now ≡ take 19 c.args.line.now = search rules in
    let back : c.split_at.result.1.now ≡ drop 19 c.args.line.now = search rules in
    let text : c.split_at.result.0.now ≡ written_moment c.read_in_day.new.self = search rules in
    let comma : get_or c.split_at.result.1.now 0 0 ≡ 44 = search rules in
    joined_written c.read_in_day.new.self c.args.line.now c.split_at.result.0.now c.split_at.result.1.now
    (take (length c.split_at.result.1.now - 1) (drop 1 c.split_at.result.1.now)) front back
    (headed c.split_at.result.1.now c.in-len1-up.len_at_least comma) text
