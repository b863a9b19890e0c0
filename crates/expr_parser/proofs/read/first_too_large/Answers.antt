use Rattle.std.proofs.Common.{◌+◌, drop, rules, arith}
use Rattle.std.proofs.lemmas.Grind.{common_steps}
use Rattle.expr_parser.specs.Tokens.{kind}
use Rattle.expr_parser.proofs.read.first_too_large.Goals as goal

pub loop-i-preserved : goal.loop-i-preserved
loop-i-preserved c =
    let passes = c.is_too_large.ensures (kind (drop (c.loop-i.i + 1) c.args.tokens.now)) in
    first_of (search rules, grind (arith, common_steps))
