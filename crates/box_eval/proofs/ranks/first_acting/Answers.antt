use Rattle.std.proofs.Common.{◌≡◌, length, arith}
use Rattle.box_eval.specs.internal.Known.{known_of}
use Rattle.box_eval.proofs.FirstActing.{first_goes_on, first_is}
use Rattle.box_eval.proofs.ranks.first_acting.Goals as goal

pub loop-number-preserved : goal.loop-number-preserved
loop-number-preserved c = (
  first_goes_on c.args.rules.now (known_of c.args.truths.now) c.args.link c.loop-number.number
      c.loop-number.first c.first_with-first.result c.first_with-first.ensures.each
      c.loop-number.invariant.0,
  omega (arith, c.loop-number-test.true, c.len-number-end.ensures.value),
)

pub returns : goal.returns
returns c =
    let all : c.loop-number.number ≡ length c.args.rules.now.rules = omega (arith, c.loop-number-test.false, c.loop-number.invariant.1, c.len-number-end.ensures.value) in
    record {
      first =
          first_is c.args.rules.now (known_of c.args.truths.now) c.args.link c.loop-number.number
          c.loop-number.first all c.loop-number.invariant.0;
    }
