use Rattle.std.proofs.Common.{arith, ap₂, ◌∙◌, SFits}
use Rattle.std.specs.Int.{w128}
use Rattle.std.proofs.lemmas.Int.{ints, to_z-of_z, to_z_pos}
use Rattle.exact_fraction.specs.Checked.{made}
use Rattle.num_text.proofs.spelled.made.Goals as goal

pub returns : goal.returns
returns c =
    let fits : SFits w128 c.signed.result = omega (arith, ints, c.signed.type_inv) in
    record { value = c.make.ensures.value ∙ ap₂ made (to_z-of_z w128 c.signed.result fits ∙ c.signed.ensures.value) (to_z_pos w128 c.args.denominator c.requires.denominator_fits) }
