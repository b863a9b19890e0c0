use Rattle.premise_eval.proofs.MarkSteps.{more_none, more_rules, all_rules}
use Rattle.premise_eval.proofs.marks.mark_some.Goals as goal

pub loop-number-init : goal.loop-number-init
loop-number-init c = more_none c.clear.new.marks

pub loop-number-preserved : goal.loop-number-preserved
loop-number-preserved c =
    more_rules c.args.rules.now c.args.only.now c.loop-number.number-index c.index-all-number.result c.as_slice-all.result.now c.as_slice-names.result.now
    c.clear.new.marks c.loop-number.marks c.mark_rule.new.marks
    c.as_slice-all.ensures.value c.as_slice-names.ensures.value c.loop-number-test.true
    (c.requires.exist c.loop-number.number-index 0 c.loop-number-test.true)
    c.index-all-number.is c.loop-number.invariant c.mark_rule.ensures.marks c.loop-number.auto.marks

pub returns : goal.returns
returns c = record {
  marks =
      all_rules c.args.rules.now c.args.only.now c.loop-number.number-index _ c.clear.new.marks c.loop-number.marks
      c.clear.ensures c.requires.each c.loop-number-test.false c.loop-number.invariant;
}
