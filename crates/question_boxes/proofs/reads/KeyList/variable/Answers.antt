use Rattle.std.proofs.Common.{Some, None, ap, refl}
use Rattle.rule_types.specs.Reading.{kind_key}
use Rattle.question_boxes.proofs.Additions.{found_name, no_key, no_name}
use Rattle.question_boxes.proofs.reads.KeyList.variable.Goals as goal

pub returns-in-Formula : goal.returns-in-Formula
returns-in-Formula c = record {
  adds =
      no_key c.args.self.now c.args.names.now c.args.name (Some c.in-Some.named.now)
      (found_name c.args.names.now c.args.name c.in-Some.named.now c.in-Some.ensures.lookup.3.0 c.in-Some.ensures.lookup.3.1) (ap kind_key c.in-Formula.is);
}

pub returns-in-None : goal.returns-in-None
returns-in-None c = record {
  adds = no_key c.args.self.now c.args.names.now c.args.name None (no_name c.args.names.now c.args.name c.in-None.ensures.lookup.3) refl;
}
