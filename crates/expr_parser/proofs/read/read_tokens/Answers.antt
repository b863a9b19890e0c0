use Rattle.std.proofs.Common.{◌≡◌, false, rules, arith}
use Rattle.std.proofs.lemmas.Grind.{common_steps}
use Rattle.expr_parser.specs.declared.acceptance.Stage.TheVariants.{Operand}
use Rattle.expr_parser.specs.Reading.{formula_of}
use Rattle.expr_parser.specs.internal.Acceptance.{accepts}
use Rattle.expr_parser.proofs.Readings.{refused}
use Rattle.expr_parser.proofs.read.read_tokens.Goals as goal

pub returns-then-not-is_formula : goal.returns-then-not-is_formula
unfolding formula_of
returns-then-not-is_formula c =
    let stopped : accepts c.args.source.now Operand 0 c.args.tokens.now ≡ false = grind arith in
    let e = refused c.args.source.now c.args.tokens.now stopped in
    first_of (search rules, grind (arith, common_steps))
