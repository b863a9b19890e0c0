use Rattle.num_text.proofs.Zeros.{held-zero}
use Rattle.num_text.proofs.narrow.NarrowSignificand.with_zero.Goals as goal

pub returns : goal.returns
returns c = record { held = λ front known. rw c.in_ok-checked_add.ensures.1 (held-zero c.args.self.number c.args.self.zeros front known) }
