use Rattle.std.proofs.Common.{sym, ◌∙◌}
use Rattle.num_text.specs.Times.{IsReadTime}
use Rattle.num_text.proofs.Within.{if_some, hours-bounds, hours-exact, clock-exact}
use Rattle.num_text.proofs.times.read_time.Goals as goal

pub returns-in-Some-clause-bounds : goal.returns-in-Some-clause-bounds
returns-in-Some-clause-bounds c = rw c.ratio_of.ensures.value (clock-exact c.in-Some.second c.in-Some.ensures.bound)

pub returns-clause-bounds : goal.returns-clause-bounds
returns-clause-bounds c =
    if_some IsReadTime c.read_hours.result (λ q is. hours-exact q (hours-bounds c.args.text.now q (sym c.read_hours.ensures.value ∙ is)))
