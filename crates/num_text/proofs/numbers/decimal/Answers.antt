use Rattle.std.proofs.Common.{arith, ap, ◌∙◌, ◌^◌, pos, refl, w64, SFits, to_z, of_z}
use Rattle.std.specs.Int.{w128}
use Rattle.std.specs.Prelude.{ok_or}
use Rattle.std.proofs.lemmas.Int.{ints, to_z-of_z}
use Rattle.exact_fraction.specs.Number.{ratio}
use Rattle.num_text.specs.Numbers.{in_bounds}
use Rattle.num_text.specs.declared.error.NumberFault.TheVariants.{TooLarge}
use Rattle.num_text.proofs.Digits.{ten_pos}
use Rattle.num_text.proofs.Bounds.{made-in_bounds}
use Rattle.num_text.proofs.numbers.decimal.Goals as goal

pub returns : goal.returns
returns c =
    let fits : SFits w64 c.args.digits = omega (arith, ints, c.requires.low, c.requires.high) in
    record {
      value = c.ok_or.ensures.value ∙ ap (λ m. ok_or m TooLarge) c.decimal.ensures.value
          ∙ made-in_bounds (to_z w64 (of_z w64 (to_z w128 (of_z w128 c.args.digits)))) (pos (10 ^ c.args.places)) (10 ^ c.args.places) refl (ten_pos c.args.places)
          ∙ ap (λ n. in_bounds (ratio n (10 ^ c.args.places))) (ap (λ z. to_z w64 (of_z w64 z)) (to_z-of_z w128 c.args.digits c.ranges.digits) ∙ to_z-of_z w64 c.args.digits fits);
    }
