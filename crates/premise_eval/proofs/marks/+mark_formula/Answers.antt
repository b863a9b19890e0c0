use Rattle.std.proofs.Common.{◌≡◌, ◌++◌, ◌∙◌, sym, ap, subst, List, ℕ}
use Rattle.rule_types.specs.Formulas.{formula_names}
use Rattle.premise_eval.specs.internal.Marks.{MarksNames}
use Rattle.premise_eval.proofs.MarkSteps.{more_none, more_two, names_number, names_add, names_sub, names_mul, names_div}
use Rattle.premise_eval.proofs.marks.+mark_formula.Goals as goal

pub returns-in-Number : goal.returns-in-Number
returns-in-Number t c = record {
  marks =
      subst (λ (l : List ℕ). MarksNames l c.args.marks.now c.args.marks.now)
      (sym (ap formula_names c.in-Number.is ∙ names_number c.in-Number.field-0)) (more_none c.args.marks.now);
}

pub returns-in-Add : goal.returns-in-Add
returns-in-Add t c =
    let names : formula_names c.args.formula.now ≡ formula_names c.get-in-Add.result.now ++ formula_names c.get-in-Add-2.result.now =
    ap formula_names c.in-Add.is ∙ names_add c.in-Add.a c.in-Add.b
    ∙ ap (λ e. formula_names e ++ formula_names c.in-Add.b) (sym c.get-in-Add.ensures.value)
    ∙ ap (λ e. formula_names c.get-in-Add.result.now ++ formula_names e) (sym c.get-in-Add-2.ensures.value) in
    record {
      marks =
          subst (λ l. MarksNames l c.args.marks.now c.mark_formula-in-Add-2.new.marks) (sym names)
          (more_two (formula_names c.get-in-Add.result.now) (formula_names c.get-in-Add-2.result.now) c.args.marks.now c.mark_formula-in-Add.new.marks c.mark_formula-in-Add-2.new.marks
          c.mark_formula-in-Add.ensures.marks c.mark_formula-in-Add-2.ensures.marks c.mark_formula-in-Add.auto.marks);
    }

pub returns-in-Sub : goal.returns-in-Sub
returns-in-Sub t c =
    let names : formula_names c.args.formula.now ≡ formula_names c.get-in-Sub.result.now ++ formula_names c.get-in-Sub-2.result.now =
    ap formula_names c.in-Sub.is ∙ names_sub c.in-Sub.a c.in-Sub.b
    ∙ ap (λ e. formula_names e ++ formula_names c.in-Sub.b) (sym c.get-in-Sub.ensures.value)
    ∙ ap (λ e. formula_names c.get-in-Sub.result.now ++ formula_names e) (sym c.get-in-Sub-2.ensures.value) in
    record {
      marks =
          subst (λ l. MarksNames l c.args.marks.now c.mark_formula-in-Sub-2.new.marks) (sym names)
          (more_two (formula_names c.get-in-Sub.result.now) (formula_names c.get-in-Sub-2.result.now) c.args.marks.now c.mark_formula-in-Sub.new.marks c.mark_formula-in-Sub-2.new.marks
          c.mark_formula-in-Sub.ensures.marks c.mark_formula-in-Sub-2.ensures.marks c.mark_formula-in-Sub.auto.marks);
    }

pub returns-in-Mul : goal.returns-in-Mul
returns-in-Mul t c =
    let names : formula_names c.args.formula.now ≡ formula_names c.get-in-Mul.result.now ++ formula_names c.get-in-Mul-2.result.now =
    ap formula_names c.in-Mul.is ∙ names_mul c.in-Mul.a c.in-Mul.b
    ∙ ap (λ e. formula_names e ++ formula_names c.in-Mul.b) (sym c.get-in-Mul.ensures.value)
    ∙ ap (λ e. formula_names c.get-in-Mul.result.now ++ formula_names e) (sym c.get-in-Mul-2.ensures.value) in
    record {
      marks =
          subst (λ l. MarksNames l c.args.marks.now c.mark_formula-in-Mul-2.new.marks) (sym names)
          (more_two (formula_names c.get-in-Mul.result.now) (formula_names c.get-in-Mul-2.result.now) c.args.marks.now c.mark_formula-in-Mul.new.marks c.mark_formula-in-Mul-2.new.marks
          c.mark_formula-in-Mul.ensures.marks c.mark_formula-in-Mul-2.ensures.marks c.mark_formula-in-Mul.auto.marks);
    }

pub returns-in-Div : goal.returns-in-Div
returns-in-Div t c =
    let names : formula_names c.args.formula.now ≡ formula_names c.get-in-Div.result.now ++ formula_names c.get-in-Div-2.result.now =
    ap formula_names c.in-Div.is ∙ names_div c.in-Div.a c.in-Div.b
    ∙ ap (λ e. formula_names e ++ formula_names c.in-Div.b) (sym c.get-in-Div.ensures.value)
    ∙ ap (λ e. formula_names c.get-in-Div.result.now ++ formula_names e) (sym c.get-in-Div-2.ensures.value) in
    record {
      marks =
          subst (λ l. MarksNames l c.args.marks.now c.mark_formula-in-Div-2.new.marks) (sym names)
          (more_two (formula_names c.get-in-Div.result.now) (formula_names c.get-in-Div-2.result.now) c.args.marks.now c.mark_formula-in-Div.new.marks c.mark_formula-in-Div-2.new.marks
          c.mark_formula-in-Div.ensures.marks c.mark_formula-in-Div-2.ensures.marks c.mark_formula-in-Div.auto.marks);
    }
