use Rattle.std.proofs.Common.{◌≤ℤ◌, ◌-ℤ◌, ◌∙◌, ap, sym, arith, refl, w64}
use Rattle.std.proofs.lemmas.Int.{ints, to_z-of_z, fits_signed_from_abs}
use Rattle.moment_pieces.proofs.Runs.{run_of}
use Rattle.moment_pieces.proofs.WholeTests.{lt_false}
use Rattle.moment_pieces.proofs.spans.span_of.Goals as goal

pub returns : goal.returns
returns c =
    let order : c.args.run.now.from ≤ℤ c.args.run.now.to = omega (arith, ints, c.if-last-first.false, c.seconds-first.ensures.value, c.seconds-last.ensures.value) in
    let midnight = to_z-of_z w64 c.midnight_of.result (fits_signed_from_abs w64 c.midnight_of.result (omega (arith, c.midnight_of.ensures.size))) in
    let start = to_z-of_z w64 c.start_of.result (fits_signed_from_abs w64 c.start_of.result (omega (arith, c.start_of.ensures.size))) in
    record {
      value = (
        lt_false c.args.run.now.to c.args.run.now.from order,
        run_of c.args.run.now.start c.args.run.now.from c.args.run.now.to _ c.seconds-first.ensures.range c.seconds-last.ensures.range order refl
            (midnight ∙ c.midnight_of.ensures.value)
            (start ∙ c.start_of.ensures.value ∙ ap (λ m. c.args.run.now.start -ℤ m) (sym (midnight ∙ c.midnight_of.ensures.value)))
            c.first_of.ensures.value
            (c.last_of.ensures.value ∙ ap (λ m. c.args.run.now.to -ℤ m) (sym (midnight ∙ c.midnight_of.ensures.value))),
      );
    }
