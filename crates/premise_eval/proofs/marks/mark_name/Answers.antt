use Rattle.std.proofs.Common.{◌∷◌, [], subst, Option}
use Rattle.rule_types.specs.declared.names.NameDef.{NameDef}
use Rattle.rule_types.specs.Reading.{at_name, kind_names}
use Rattle.premise_eval.specs.internal.Marks.{MarksNames}
use Rattle.premise_eval.proofs.MarkSteps.{more_two}
use Rattle.premise_eval.proofs.marks.mark_name.Goals as goal

pub returns-in-Some : goal.returns-in-Some
returns-in-Some c = record {
  marks =
      subst (λ (o : Option NameDef). MarksNames (c.args.name ∷ at_name kind_names o) c.args.marks.now c.mark_kind.new.marks) c.in-Some.ensures.value
      (more_two (c.args.name ∷ []) (kind_names c.in-Some.named.now.stands_for) c.args.marks.now c.mark.new.marks c.mark_kind.new.marks
      c.mark.ensures.marks c.mark_kind.ensures.marks c.mark.auto.marks);
}

pub returns-in-None : goal.returns-in-None
returns-in-None c = record {
  marks =
      subst (λ (o : Option NameDef). MarksNames (c.args.name ∷ at_name kind_names o) c.args.marks.now c.mark.new.marks) c.in-None.ensures.value
      c.mark.ensures.marks;
}
