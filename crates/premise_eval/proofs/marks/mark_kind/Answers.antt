use Rattle.std.proofs.Common.{sym, subst, ap, List, ℕ}
use Rattle.rule_types.specs.Reading.{kind_names}
use Rattle.premise_eval.specs.internal.Marks.{MarksNames}
use Rattle.premise_eval.proofs.MarkSteps.{more_none}
use Rattle.premise_eval.proofs.marks.mark_kind.Goals as goal

pub returns-in-Variable : goal.returns-in-Variable
returns-in-Variable c = record {
  marks =
      subst (λ (l : List ℕ). MarksNames l c.args.marks.now c.args.marks.now)
      (sym (ap kind_names c.in-Variable.is)) (more_none c.args.marks.now);
}
