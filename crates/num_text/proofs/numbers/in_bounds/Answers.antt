use Rattle.std.proofs.Common.{arith, ap, ◌∙◌, SFits}
use Rattle.std.specs.Prelude.{ok_or}
use Rattle.std.specs.Int.{w128}
use Rattle.std.proofs.lemmas.Int.{ints, to_z-of_z, to_z_pos}
use Rattle.exact_fraction.specs.Number.{ratio}
use Rattle.num_text.specs.Numbers.{in_bounds}
use Rattle.num_text.specs.declared.error.NumberFault.TheVariants.{TooLarge}
use Rattle.num_text.proofs.Bounds.{made-in_bounds}
use Rattle.num_text.proofs.numbers.in_bounds.Goals as goal

pub returns : goal.returns
returns c =
    let fits : SFits w128 c.signed.result = omega (arith, ints, c.signed.type_inv) in
    record {
      value = c.ok_or.ensures.value ∙ ap (λ m. ok_or m TooLarge) c.make.ensures.value
          ∙ made-in_bounds _ _ c.args.denominator (to_z_pos w128 c.args.denominator c.requires.denominator_fits) c.requires.positive
          ∙ ap (λ n. in_bounds (ratio n c.args.denominator)) (to_z-of_z w128 c.signed.result fits ∙ c.signed.ensures.value);
    }
