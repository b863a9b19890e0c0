use Rattle.std.proofs.Common.{◌≡◌, length, arith}
use Rattle.trace_csv.proofs.OneDigit.{digit_text}
use Rattle.trace_csv.proofs.field.digit_in.Goals as goal

pub returns : goal.returns
returns c =
    let long : length c.args.field.now ≡ 1 = omega (arith, c.in-len1.len_at_least, c.in-len1.len_below) in
    digit_text c.args.field.now c.natural.result long (omega arith) (omega arith) c.natural.ensures.value
