-- The sign is put back on the rounded size.
use Rattle.std.proofs.Common.{◌<◌, ◌≤ℤ◌, ◌<ℤ◌, pos, arith}
use Rattle.std.specs.Prelude.{unsigned_abs}
use Rattle.std.proofs.lemmas.Int.{ints}
use Rattle.exact_fraction.proofs.Wide.{rounded_passed, nearest_positive, nearest_negative}
use Rattle.exact_fraction.proofs.divisor.nearest.Goals as goal

pub returns-then-n-lt0 : goal.returns-then-n-lt0
returns-then-n-lt0 c =
    let d_pos : 0 < unsigned_abs c.args.d = omega (arith, ints) in
    let n_low : c.args.n <ℤ pos 0 = omega (arith, ints) in
    nearest_negative c.args.n _ (unsigned_abs c.args.d) n_low d_pos c.requires.size
    (rounded_passed c.args.n c.args.d _ _ _ c.ranges.n c.ranges.d c.unsigned_abs.ensures.value c.unsigned_abs-2.ensures.value c.nearest_size-size.ensures)

pub returns-else-n-lt0 : goal.returns-else-n-lt0
returns-else-n-lt0 c =
    let d_pos : 0 < unsigned_abs c.args.d = omega (arith, ints) in
    let n_high : pos 0 ≤ℤ c.args.n = omega (arith, ints) in
    nearest_positive c.args.n _ (unsigned_abs c.args.d) n_high d_pos c.requires.size
    (rounded_passed c.args.n c.args.d _ _ _ c.ranges.n c.ranges.d c.unsigned_abs.ensures.value c.unsigned_abs-2.ensures.value c.nearest_size-size.ensures)
