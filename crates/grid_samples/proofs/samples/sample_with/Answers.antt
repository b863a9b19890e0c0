use Rattle.std.proofs.Common.{sym, subst}
use Rattle.rule_types.specs.KeyOrder.{IsInKeyOrder}
use Rattle.rule_types.proofs.PublicLaws.{opened-orders}
use Rattle.grid_samples.proofs.samples.sample_with.Goals as goal

pub numbers_of_keys-requires : goal.numbers_of_keys-requires
numbers_of_keys-requires c = record {
  in_order =
      subst IsInKeyOrder (sym c.as_slice.ensures.value)
      (opened-orders c.args.rules.now c.requires.formed.orders).input_keys;
}
