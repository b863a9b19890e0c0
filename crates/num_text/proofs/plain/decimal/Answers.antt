use Rattle.std.proofs.Common.{arith, ap, ◌∙◌, ◌^◌, pos, SFits, w64, sym}
use Rattle.std.proofs.lemmas.Int.{ints, to_z-of_z}
use Rattle.exact_fraction.specs.Checked.{made}
use Rattle.num_text.proofs.Within.{if_some}
use Rattle.num_text.proofs.PlainDecimals.{plain-spelled}
use Rattle.num_text.proofs.plain.decimal.Goals as goal

pub returns : goal.returns
returns c =
    let fits : SFits w64 c.signed.result = omega (arith, ints, c.signed.type_inv) in
    let number = to_z-of_z w64 c.signed.result fits ∙ c.signed.ensures.value in
    record {
      value = if_some _ c.decimal.result (λ q e whole behind long is.
          plain-spelled c.args.negative whole behind c.args.number c.args.places q long is (omega arith) (omega arith)
          (ap (λ n. made n (pos (10 ^ c.args.places))) (sym number) ∙ sym c.decimal.ensures.value ∙ e));
    }
