use Rattle.std.proofs.Common.{refl}
use Rattle.num_text.specs.Numbers.{without_end_zeros}
use Rattle.num_text.specs.Written.{places}
use Rattle.num_text.specs.Values.{written_value, written_size, written_units}
use Rattle.exact_fraction.specs.Number.{den, whole}
use Rattle.std.specs.Fmt.{digits}
use Rattle.num_text.proofs.examples.values.Goals as goal

pub returns-clause-half : goal.returns-clause-half
unfolding written_value written_size written_units without_end_zeros places den digits whole
returns-clause-half c = refl

pub returns-clause-third : goal.returns-clause-third
unfolding written_value written_size written_units without_end_zeros places den digits whole
returns-clause-third c = refl

pub returns-clause-seven : goal.returns-clause-seven
unfolding written_value written_size written_units without_end_zeros places den digits whole
returns-clause-seven c = refl

pub returns-clause-nothing : goal.returns-clause-nothing
unfolding written_value written_size written_units without_end_zeros places den digits whole
returns-clause-nothing c = refl

pub returns-clause-hundredth : goal.returns-clause-hundredth
unfolding written_value written_size written_units without_end_zeros places den digits whole
returns-clause-hundredth c = refl
