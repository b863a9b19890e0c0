use Rattle.std.proofs.Common.{sym}
use Rattle.num_text.proofs.Bounds.{in_bounds-false, large-up}
use Rattle.num_text.proofs.numbers.raised.Goals as goal

pub returns-then-number-ge-TWO_63 : goal.returns-then-number-ge-TWO_63
returns-then-number-ge-TWO_63 c =
    record { value = sym (in_bounds-false _ (large-up c.args.negative c.args.number c.args.power c.if-number-ge-TWO_63.true)) }
