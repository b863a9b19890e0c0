use Rattle.std.proofs.Common.{Some, None, ap, refl}
use Rattle.rule_types.specs.Reading.{kind_names}
use Rattle.question_boxes.proofs.Additions.{found_name, name_alone, name_formula, no_name}
use Rattle.question_boxes.proofs.reads.KeyList.name.Goals as goal

pub returns-in-Formula : goal.returns-in-Formula
returns-in-Formula c = record {
  adds =
      name_formula c.args.self.now c.variable.new.self c.formula.new.self c.args.names.now
      c.args.name (Some c.in-Some.named.now) c.in-Formula.formula c.formula.result
      (found_name c.args.names.now c.args.name c.in-Some.named.now c.in-Some.ensures.lookup.3.0 c.in-Some.ensures.lookup.3.1) (ap kind_names c.in-Formula.is) c.in_ok-variable.ensures.adds
      c.formula.ensures.adds;
}

pub returns-in-None : goal.returns-in-None
returns-in-None c = record {
  adds =
      name_alone c.args.self.now c.variable.new.self c.args.names.now c.args.name None
      (no_name c.args.names.now c.args.name c.in-None.ensures.lookup.3) refl c.in_ok-variable.ensures.adds;
}
