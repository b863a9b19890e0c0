use Rattle.std.proofs.Common.{pos, ◌-ℤ◌, Some, arith}
use Rattle.std.proofs.lemmas.Int.{ints}
use Rattle.std.specs.Prelude.{◌&&◌, nat_le}
use Rattle.std.specs.Ordering.{int_eq}
use Rattle.std.proofs.lemmas.Result.{on_ok_weaker}
use Rattle.clock_values.specs.Windows.{turns_at}
use Rattle.moment_pieces.proofs.Gathers.{adds_none, adds_both, nothing_within, ends_meet, ends_apart}
use Rattle.moment_pieces.proofs.turns.put_ends.Goals as goal

pub returns-then-high-low : goal.returns-then-high-low
returns-then-high-low c = record {
  adds =
      adds_none c.args.set.now.keys
      (λ m. turns_at c.args.low.now (Some c.args.high.now) (pos m -ℤ c.args.scale.now.shift) && nat_le m c.args.scale.now.limit)
      (λ m. nothing_within (turns_at c.args.low.now (Some c.args.high.now) (pos m -ℤ c.args.scale.now.shift)) (nat_le m c.args.scale.now.limit)
      (ends_meet c.args.low.now c.args.high.now (pos m -ℤ c.args.scale.now.shift) (omega (arith, ints, c.if-high-low.true))));
}

pub returns : goal.returns
returns c = record {
  adds =
      on_ok_weaker c.put_second-2.result
      (λ a. adds_both c.args.set.now.keys c.put_second.new.set.keys c.put_second-2.new.set.keys
      (λ m. int_eq (pos m -ℤ c.args.scale.now.shift) c.args.low.now && nat_le m c.args.scale.now.limit)
      (λ m. int_eq (pos m -ℤ c.args.scale.now.shift) c.args.high.now && nat_le m c.args.scale.now.limit)
      (λ m. turns_at c.args.low.now (Some c.args.high.now) (pos m -ℤ c.args.scale.now.shift) && nat_le m c.args.scale.now.limit)
      c.in_ok-put_second.ensures.adds a
      (λ m. ends_apart c.args.low.now c.args.high.now (pos m -ℤ c.args.scale.now.shift) (nat_le m c.args.scale.now.limit) (omega (arith, ints, c.if-high-low.false))))
      c.put_second-2.ensures.adds;
}
