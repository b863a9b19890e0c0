use Rattle.num_text.proofs.WrittenDecimals.{no_decimals}
use Rattle.num_text.proofs.values.push_behind.Goals as goal

pub returns-then-number-eq0 : goal.returns-then-number-eq0
returns-then-number-eq0 c =
    record { value = no_decimals c.args.text.now c.args.number c.if-number-eq0.true }
