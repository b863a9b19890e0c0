use Rattle.std.proofs.Common.{◌^◌, ◌≤◌, ◌*◌, length, arith, lit≤}
use Rattle.std.proofs.Math.Nat.{pow-le-pow_right, mul-le-mul_left}
use Rattle.num_text.proofs.spelled.with_decimals.Goals as goal

pub made-requires-clause-size_fits : goal.made-requires-clause-size_fits
made-requires-clause-size_fits c =
    let most : 10 ^ length c.args.behind.now ≤ 10 ^ 18 = pow-le-pow_right (lit≤ tt) c.requires.few in
    let scale : c.pow-scale.result ≤ 10 ^ 18 = omega (arith, c.pow-scale.ensures) in
    let grown : c.args.whole * c.pow-scale.result ≤ c.args.whole * 10 ^ 18 = mul-le-mul_left c.args.whole scale in
    omega arith
