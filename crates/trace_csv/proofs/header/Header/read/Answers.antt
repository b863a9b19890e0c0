use Rattle.std.proofs.Common.{sym, subst}
use Rattle.rule_types.specs.KeyOrder.{IsInKeyOrder}
use Rattle.rule_types.proofs.PublicLaws.{opened-orders}
use Rattle.trace_csv.proofs.header.Header.read.Goals as goal

pub read_header-requires : goal.read_header-requires
read_header-requires c = record {
  in_order = subst IsInKeyOrder (sym c.as_slice.ensures.value) (opened-orders c.args.rules.now c.requires.in_order).input_keys;
}
