use Rattle.std.proofs.Common.{◌^◌}
use Rattle.num_text.proofs.Zeros.{held-zero, large-any}
use Rattle.num_text.proofs.significand.Significand.with_digit.Goals as goal

pub returns-then-digit-eq48-clause-stands : goal.returns-then-digit-eq48-clause-stands
returns-then-digit-eq48-clause-stands c =
    λ front known. rw c.if-digit-eq48.true (held-zero c.in-Held.number c.in-Held.zeros front (rw c.in-Held.is at known))

pub returns-in-Large-clause-stands : goal.returns-in-Large-clause-stands
returns-in-Large-clause-stands c =
    λ front known. large-any (10 ^ 37) front c.args.digit c.requires.is_digit (rw c.in-Large.is at known)
