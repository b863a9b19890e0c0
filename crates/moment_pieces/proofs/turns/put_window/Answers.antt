use Rattle.std.proofs.Common.{pos, ◌-ℤ◌, ap, Some}
use Rattle.std.specs.Prelude.{◌&&◌, nat_le}
use Rattle.std.specs.Ordering.{int_eq}
use Rattle.std.proofs.lemmas.Result.{on_ok_weaker}
use Rattle.clock_values.specs.Windows.{turns_at, window_turns}
use Rattle.moment_pieces.proofs.Gathers.{adds_as, open_turns, closed_turns}
use Rattle.moment_pieces.proofs.turns.put_window.Goals as goal

pub returns-in-None : goal.returns-in-None
returns-in-None c = record {
  adds =
      on_ok_weaker c.put_second.result
      (λ a. adds_as c.args.set.now.keys c.put_second.new.set.keys
      (λ m. int_eq (pos m -ℤ c.args.scale.now.shift) c.args.window.now.low && nat_le m c.args.scale.now.limit)
      (λ m. window_turns c.args.window.now (pos m -ℤ c.args.scale.now.shift) && nat_le m c.args.scale.now.limit)
      a (λ m. ap (λ b. b && nat_le m c.args.scale.now.limit) (open_turns c.args.window.now (pos m -ℤ c.args.scale.now.shift) c.in-None.is)))
      c.put_second.ensures.adds;
}

pub returns-in-Some : goal.returns-in-Some
returns-in-Some c = record {
  adds =
      on_ok_weaker c.put_ends.result
      (λ a. adds_as c.args.set.now.keys c.put_ends.new.set.keys
      (λ m. turns_at c.args.window.now.low (Some c.in-Some.high) (pos m -ℤ c.args.scale.now.shift) && nat_le m c.args.scale.now.limit)
      (λ m. window_turns c.args.window.now (pos m -ℤ c.args.scale.now.shift) && nat_le m c.args.scale.now.limit)
      a (λ m. ap (λ b. b && nat_le m c.args.scale.now.limit) (closed_turns c.args.window.now c.in-Some.high (pos m -ℤ c.args.scale.now.shift) c.in-Some.is)))
      c.put_ends.ensures.adds;
}
