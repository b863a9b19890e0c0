use Rattle.num_text.proofs.Digits.{ten_pos}
use Rattle.num_text.proofs.numbers.lowered.Goals as goal

pub in_bounds-requires-clause-positive : goal.in_bounds-requires-clause-positive
in_bounds-requires-clause-positive c = rw c.pow.ensures (ten_pos c.args.places)
