use Rattle.std.proofs.Common.{◌≡◌, ℕ, ◌+◌, ◌<◌, ◌∷◌, [], ℤ, pos, SFits, w64, to_z, of_z, arith, sym, ap, ◌∙◌}
use Rattle.std.proofs.lemmas.Int.{ints, to_z-of_z}
use Rattle.std.specs.Prelude.{unsigned_abs}
use Rattle.exact_fraction.specs.Number.{den}
use Rattle.replay_text.proofs.OneDigit.{digit_value}
use Rattle.replay_text.proofs.lines.digit_of.Goals as goal

pub returns : goal.returns
returns c =
    let one : pos (den c.args.value) ≡ pos 1 = omega (arith, ints, c.if-den-ne1.false, c.den.ensures.value) in
    let fits : SFits w64 c.num-number.result = omega (arith, ints, c.num-number.type_inv) in
    let passed : to_z w64 (of_z w64 c.num-number.result) ≡ c.num-number.result = to_z-of_z w64 c.num-number.result fits in
    let n : ℕ = unsigned_abs c.num-number.result in
    let whole : c.num-number.result ≡ pos n = omega (arith, ints, c.if-number-lt0.false) in
    let small : n < 10 = omega (arith, ints, c.if-number-lt0.false, c.if-number-gt9.false) in
    digit_value c.args.value n (sym c.num-number.ensures.value ∙ whole) one small
    ∙ ap (λ (z : ℤ). (48 + unsigned_abs z) ∷ []) (sym passed)
