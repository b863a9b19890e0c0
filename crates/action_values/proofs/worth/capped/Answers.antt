use Rattle.std.proofs.Common.{◌∙◌, sym}
use Rattle.action_values.proofs.Zeros.{uncapped}
use Rattle.action_values.proofs.worth.capped.Goals as goal

pub returns-then-is_zero : goal.returns-then-is_zero
returns-then-is_zero c =
    record { value = uncapped c.args.rate.now c.args.value (sym c.is_zero.ensures.value ∙ c.if-is_zero.true) }
