use Rattle.std.proofs.Common.{rules}
use Rattle.report_text.proofs.Halved.{ordered_by}
use Rattle.report_text.proofs.ordered.is_ordered.Goals as goal

pub returns : goal.returns
returns c = λ is.
    ordered_by c.args.rules.now c.args.state.now c.as_slice.result.now c.as_slice-2.result.now c.as_slice-3.result.now
    c.as_slice.ensures.value c.as_slice-2.ensures.value c.as_slice-3.ensures.value
    (c.keys_rise.ensures c.if-not-keys_rise.false) (c.links_rise.ensures c.if-not-links_rise.false)
    (c.links_rise-2.ensures is) (search rules) (search rules)
