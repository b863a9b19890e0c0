use Rattle.std.proofs.Common.{◌/◌, arith}
use Rattle.num_text.proofs.WrittenDecimals.{length-decimal}
use Rattle.num_text.proofs.values.push_units.Goals as goal

pub push_number-requires : goal.push_number-requires
push_number-requires c =
    let short = length-decimal (c.args.units / 1_000_000_000_000_000_000) (omega arith) in
    record { room = omega arith }

pub push_behind-requires-clause-room : goal.push_behind-requires-clause-room
push_behind-requires-clause-room c =
    let short = length-decimal (c.args.units / 1_000_000_000_000_000_000) (omega arith) in
    omega arith
