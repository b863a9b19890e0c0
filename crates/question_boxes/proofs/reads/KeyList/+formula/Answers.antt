use Rattle.std.proofs.Common.{ap, ◌∙◌}
use Rattle.rule_types.specs.Formulas.{formula_names}
use Rattle.question_boxes.proofs.Additions.{names_add, names_sub, names_mul, names_div, adds_operands}
use Rattle.question_boxes.proofs.reads.KeyList.+formula.Goals as goal

pub formula-returns-in_ok-operand-in-Add : goal.formula-returns-in_ok-operand-in-Add
formula-returns-in_ok-operand-in-Add t c =
    record {
      adds = adds_operands c.args.names.now c.args.formula.now c.in-Add.a c.in-Add.b c.args.self.now
          c.operand-in-Add.new.self c.operand-in-Add-2.new.self c.operand-in-Add-2.result
          (ap formula_names c.in-Add.is ∙ names_add c.in-Add.a c.in-Add.b)
          c.in_ok-operand-in-Add.ensures.adds c.operand-in-Add-2.ensures.adds;
    }

pub formula-returns-in_ok-operand-in-Sub : goal.formula-returns-in_ok-operand-in-Sub
formula-returns-in_ok-operand-in-Sub t c =
    record {
      adds = adds_operands c.args.names.now c.args.formula.now c.in-Sub.a c.in-Sub.b c.args.self.now
          c.operand-in-Sub.new.self c.operand-in-Sub-2.new.self c.operand-in-Sub-2.result
          (ap formula_names c.in-Sub.is ∙ names_sub c.in-Sub.a c.in-Sub.b)
          c.in_ok-operand-in-Sub.ensures.adds c.operand-in-Sub-2.ensures.adds;
    }

pub formula-returns-in_ok-operand-in-Mul : goal.formula-returns-in_ok-operand-in-Mul
formula-returns-in_ok-operand-in-Mul t c =
    record {
      adds = adds_operands c.args.names.now c.args.formula.now c.in-Mul.a c.in-Mul.b c.args.self.now
          c.operand-in-Mul.new.self c.operand-in-Mul-2.new.self c.operand-in-Mul-2.result
          (ap formula_names c.in-Mul.is ∙ names_mul c.in-Mul.a c.in-Mul.b)
          c.in_ok-operand-in-Mul.ensures.adds c.operand-in-Mul-2.ensures.adds;
    }

pub formula-returns-in_ok-operand-in-Div : goal.formula-returns-in_ok-operand-in-Div
formula-returns-in_ok-operand-in-Div t c =
    record {
      adds = adds_operands c.args.names.now c.args.formula.now c.in-Div.a c.in-Div.b c.args.self.now
          c.operand-in-Div.new.self c.operand-in-Div-2.new.self c.operand-in-Div-2.result
          (ap formula_names c.in-Div.is ∙ names_div c.in-Div.a c.in-Div.b)
          c.in_ok-operand-in-Div.ensures.adds c.operand-in-Div-2.ensures.adds;
    }
