use Rattle.std.proofs.Common.{arith}
use Rattle.num_text.proofs.WrittenDecimals.{length-decimal}
use Rattle.num_text.proofs.values.push_size.Goals as goal

pub push_number-requires : goal.push_number-requires
push_number-requires c =
    let short = length-decimal c.args.size c.requires.size_fits in
    record { room = omega arith }

pub push-requires : goal.push-requires
push-requires c =
    let short = length-decimal c.args.size c.requires.size_fits in
    record { room = omega arith }

pub push_number-requires-2 : goal.push_number-requires-2
push_number-requires-2 c =
    let short = length-decimal c.args.size c.requires.size_fits in
    let below = length-decimal c.args.denominator c.requires.denominator_fits in
    record { room = omega arith }
