-- Both powers are below 2^63, so their product fits.
use Rattle.std.proofs.Common.{ap, ◌∙◌, arith, to_z, of_z}
use Rattle.std.specs.Int.{w128}
use Rattle.std.proofs.lemmas.Int.{to_z-of_z}
use Rattle.exact_fraction.proofs.Decimals.{few_fives, powers_passed, powers_fit}
use Rattle.exact_fraction.proofs.decimal.factors_left.Goals as goal

pub pow-requires : goal.pow-requires
pow-requires c = omega (arith, few_fives c.args.fives c.requires.few_fives)

pub overflow_mul-result : goal.overflow_mul-result
overflow_mul-result c =
    rw (powers_passed c.args.twos c.args.fives c.pow.result c.requires.few_twos c.requires.few_fives c.pow.ensures)
    (powers_fit c.args.twos c.args.fives c.requires.few_twos c.requires.few_fives)

pub returns : goal.returns
returns c =
    ap (λ x. to_z w128 (of_z w128 x)) (powers_passed c.args.twos c.args.fives c.pow.result c.requires.few_twos c.requires.few_fives c.pow.ensures)
    ∙ to_z-of_z w128 _ (powers_fit c.args.twos c.args.fives c.requires.few_twos c.requires.few_fives)
