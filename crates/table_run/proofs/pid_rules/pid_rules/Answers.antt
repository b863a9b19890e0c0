use Rattle.table_run.proofs.PidSteps.{rules_step, rules_end}
use Rattle.table_run.specs.internal.PidRules.{pid_rules as numbers_of}
use Rattle.table_run.proofs.pid_rules.pid_rules.Goals as goal

pub loop-number-preserved : goal.loop-number-preserved
loop-number-preserved c =
    rules_step c.args.rules.now c.loop-number.number c.index-rules-number.result (numbers_of 0 c.args.rules.now)
    c.loop-number.numbers.items c.add_rule.new.numbers.items c.loop-number-test.true c.index-rules-number.is c.loop-number.invariant
    c.in_ok-add_rule.ensures.added

pub returns : goal.returns
returns c = record {
  numbers = rules_end c.args.rules.now c.loop-number.number (numbers_of 0 c.args.rules.now) c.loop-number.numbers.items c.loop-number-test.false c.loop-number.invariant;
}
