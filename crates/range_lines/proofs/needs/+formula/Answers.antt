use Rattle.range_lines.proofs.Firsts.{both_add, both_sub, both_mul, both_div}
use Rattle.range_lines.proofs.needs.+formula.Goals as goal

pub after_formula-returns-in-Add : goal.after_formula-returns-in-Add
after_formula-returns-in-Add t c =
    both_add c.args.given.now c.args.names.now c.args.formula.now c.in-Add.a c.in-Add.b c.args.found
    c.after_operand-first.result c.after_operand-in-Add.result c.in-Add.is
    c.after_operand-first.ensures c.after_operand-in-Add.ensures

pub after_formula-returns-in-Sub : goal.after_formula-returns-in-Sub
after_formula-returns-in-Sub t c =
    both_sub c.args.given.now c.args.names.now c.args.formula.now c.in-Sub.a c.in-Sub.b c.args.found
    c.after_operand-first-in-Sub.result c.after_operand-in-Sub.result c.in-Sub.is
    c.after_operand-first-in-Sub.ensures c.after_operand-in-Sub.ensures

pub after_formula-returns-in-Mul : goal.after_formula-returns-in-Mul
after_formula-returns-in-Mul t c =
    both_mul c.args.given.now c.args.names.now c.args.formula.now c.in-Mul.a c.in-Mul.b c.args.found
    c.after_operand-first-in-Mul.result c.after_operand-in-Mul.result c.in-Mul.is
    c.after_operand-first-in-Mul.ensures c.after_operand-in-Mul.ensures

pub after_formula-returns-in-Div : goal.after_formula-returns-in-Div
after_formula-returns-in-Div t c =
    both_div c.args.given.now c.args.names.now c.args.formula.now c.in-Div.a c.in-Div.b c.args.found
    c.after_operand-first-in-Div.result c.after_operand-in-Div.result c.in-Div.is
    c.after_operand-first-in-Div.ensures c.after_operand-in-Div.ensures
