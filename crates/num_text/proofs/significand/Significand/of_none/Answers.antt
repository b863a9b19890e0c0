use Rattle.std.proofs.Common.{refl}
use Rattle.num_text.specs.Numbers.{without_end_zeros}
use Rattle.num_text.proofs.significand.Significand.of_none.Goals as goal

pub returns-clause-stands : goal.returns-clause-stands
unfolding without_end_zeros
returns-clause-stands c = record { number = refl; zeros = refl }
