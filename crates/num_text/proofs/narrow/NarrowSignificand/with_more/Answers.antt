use Rattle.std.proofs.Common.{◌≡◌, ◌+◌, ◌*◌, ◌-◌, ◌^◌}
use Rattle.num_text.proofs.Zeros.{significand-digit}
use Rattle.num_text.proofs.narrow.NarrowSignificand.with_more.Goals as goal

pub returns : goal.returns
returns c = record {
  held = λ front known.
      rw (c.in_ok-checked_add.ensures.1, c.in_ok-moved.ensures.1, c.in_ok-scale_behind.ensures.value)
      (significand-digit c.args.self.number c.args.self.zeros front c.args.digit c.requires.least c.requires.most known);
}
