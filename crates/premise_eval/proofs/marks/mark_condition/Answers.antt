use Rattle.std.proofs.Common.{refl}
use Rattle.premise_eval.proofs.MarkSteps.{key_marks, name_marks}
use Rattle.premise_eval.proofs.marks.mark_condition.Goals as goal

pub returns-in-Expr : goal.returns-in-Expr
returns-in-Expr c = record {
  marks = name_marks c.args.names.now c.args.condition.now c.in-Expr.name c.args.marks.now c.mark_name.new.marks c.in-Expr.is c.mark_name.ensures.marks;
}

pub returns-in-Key : goal.returns-in-Key
returns-in-Key c = record {
  marks = key_marks c.args.names.now c.args.condition.now _ c.args.marks.now c.in-Key.is refl;
}
