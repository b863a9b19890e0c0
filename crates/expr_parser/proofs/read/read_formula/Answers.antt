use Rattle.std.proofs.Common.{◌≡◌, None, Some, sym, ◌∙◌, rules, arith}
use Rattle.std.proofs.lemmas.Grind.{common_steps}
use Rattle.expr_parser.specs.Formulas.{sum}
use Rattle.expr_parser.specs.Reading.{first_token, is_too_large}
use Rattle.expr_parser.proofs.Readings.{too_large, read, deep}
use Rattle.expr_parser.proofs.read.read_formula.Goals as goal

pub returns-in-Some : goal.returns-in-Some
returns-in-Some c =
    let e = too_large c.args.source.now c.args.tokens.now c.requires.accepted c.in-Some.token (sym c.first_too_large.ensures ∙ c.in-Some.is) in
    rw (c.at_token.ensures) e

pub returns-in-Ok : goal.returns-in-Ok
returns-in-Ok c =
    let none : first_token (is_too_large c.args.source.now) c.args.tokens.now ≡ None = grind arith in
    let found : sum c.args.source.now 65 c.args.tokens.now ≡ Some (c.in-Ok.built, c.sum.new.tokens) = grind arith in
    rw (read c.args.source.now c.args.tokens.now c.requires.accepted c.in-Ok.built c.sum.new.tokens none found) c.if_shallow.ensures

pub returns-in-Err-Grammar : goal.returns-in-Err-Grammar
returns-in-Err-Grammar c =
    let none : first_token (is_too_large c.args.source.now) c.args.tokens.now ≡ None = grind arith in
    let found : sum c.args.source.now 65 c.args.tokens.now ≡ None = grind arith in
    let e = deep c.args.source.now c.args.tokens.now c.requires.accepted none found in
    first_of (search rules, grind (arith, common_steps))
