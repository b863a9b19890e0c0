use Rattle.std.proofs.Common.{arith}
use Rattle.std.proofs.lemmas.Int.{ints}
use Rattle.moment_pieces.proofs.Gathers.{number_before, number_after}
use Rattle.moment_pieces.proofs.turns.number_at.Goals as goal

pub returns-then-second-first : goal.returns-then-second-first
returns-then-second-first c = record {
  value = number_before c.args.second.now c.args.scale.now (omega (arith, ints, c.if-second-first.true, c.first_counted-first.ensures.value));
}

pub returns-then-last-second : goal.returns-then-last-second
returns-then-last-second c = record {
  value = number_after c.args.second.now c.args.scale.now (omega (arith, ints, c.if-last-second.true, c.last_counted-last.ensures.value));
}

pub returns : goal.returns
returns c =
    let last = c.last_counted-last.ensures.value in
    let number = c.number_of.ensures.value in
    record {
      value = (
        omega (arith, ints, c.if-last-second.false, last, number),
        omega (arith, ints, number),
      );
    }
