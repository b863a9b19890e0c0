use Rattle.std.proofs.Common.{◌∙◌, sym, arith}
use Rattle.report_text.proofs.Halved.{one_more}
use Rattle.report_text.proofs.ordered.keys_rise.Goals as goal

pub keys-preserved : goal.keys-preserved
keys-preserved c = (
  omega arith,
  one_more c.args.keys.now c.keys.at _ _ c.keys.invariant.0 (omega arith) c.keys.invariant.1
      (sym c.stands_before.ensures ∙ c.if-not-stands_before.false),
)
