use Rattle.std.proofs.Common.{sym, ◌∙◌}
use Rattle.num_text.specs.Times.{IsReadHours}
use Rattle.num_text.proofs.Within.{if_some, hours-bounds}
use Rattle.num_text.proofs.times.read_hours.Goals as goal

pub returns-clause-bounds : goal.returns-clause-bounds
returns-clause-bounds c =
    if_some IsReadHours c.decimal_up_to.result (λ q is. hours-bounds c.args.text.now q (sym c.decimal_up_to.ensures.value ∙ is))
