use Rattle.std.proofs.Common.{pos, ◌-ℤ◌}
use Rattle.std.specs.Prelude.{◌==◌, ◌&&◌, nat_le}
use Rattle.std.specs.Ordering.{int_eq}
use Rattle.std.proofs.lemmas.Result.{on_ok_weaker}
use Rattle.moment_pieces.proofs.Gathers.{adds_none, adds_as, number_test, no_number}
use Rattle.moment_pieces.proofs.turns.put_second.Goals as goal

pub returns-in-Some : goal.returns-in-Some
returns-in-Some c =
    let known = c.in-Some.ensures.value in
    record {
      adds =
          on_ok_weaker c.put.result
          (λ a. adds_as c.args.set.now.keys c.put.new.set.keys (λ m. m == c.in-Some.number)
          (λ m. int_eq (pos m -ℤ c.args.scale.now.shift) c.args.second.now && nat_le m c.args.scale.now.limit)
          a (number_test c.args.second.now c.args.scale.now c.in-Some.number known.0 known.1))
          c.put.ensures.adds;
    }

pub returns-in-None : goal.returns-in-None
returns-in-None c = record {
  adds =
      adds_none c.args.set.now.keys
      (λ m. int_eq (pos m -ℤ c.args.scale.now.shift) c.args.second.now && nat_le m c.args.scale.now.limit)
      (no_number c.args.second.now c.args.scale.now c.in-None.ensures.value);
}
