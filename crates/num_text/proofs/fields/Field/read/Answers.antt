use Rattle.std.proofs.Common.{◌≤◌, ◌^◌, length, arith, lit≤}
use Rattle.std.proofs.Math.Nat.{pow-le-pow_right}
use Rattle.num_text.proofs.Digits.{leading_digits-digits}
use Rattle.num_text.proofs.fields.Field.read.Goals as goal

pub number_of-requires-clause-digits_alone : goal.number_of-requires-clause-digits_alone
number_of-requires-clause-digits_alone c =
    rw c.cut_digits.ensures.digits (leading_digits-digits c.args.text.now)

pub returns-clause-bound : goal.returns-clause-bound
returns-clause-bound c =
    let most : 10 ^ length c.cut_digits.result.0.now ≤ 10 ^ c.args.most = pow-le-pow_right (lit≤ tt) c.if-digits-most.false in
    omega arith
