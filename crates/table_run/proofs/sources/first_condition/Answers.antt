use Rattle.std.proofs.Common.{◌<◌, ◌∙◌, length, get_or, ap, arith}
use Rattle.table_run.proofs.SourceSteps.{none_in, none_in_more, rule_here, found_at}
use Rattle.table_run.proofs.sources.first_condition.Goals as goal

pub loop-rule-init : goal.loop-rule-init
loop-rule-init c = none_in c.args.rules.now.rules c.args.side.now

pub returns-in-Some-clause-found : goal.returns-in-Some-clause-found
returns-in-Some-clause-found c =
    let one = c.index-as_slice-rule.result in
    let within : c.loop-rule.rule < length c.args.rules.now.rules = omega (arith, c.loop-rule-test.true, c.len-rule-end.ensures.value) in
    rule_here c.args.rules.now c.loop-rule.rule c.args.side.now one c.in-Some.number within
    (c.index-as_slice-rule.is ∙ ap (λ l. get_or l c.loop-rule.rule one) c.as_slice.ensures.value)
    (found_at one.conditions c.args.side.now c.first_in_rule.result c.in-Some.number c.in-Some.is c.first_in_rule.ensures.found)

pub loop-rule-preserved : goal.loop-rule-preserved
loop-rule-preserved c =
    let one = c.index-as_slice-rule.result in
    none_in_more c.args.rules.now.rules c.loop-rule.rule c.args.side.now one
    (c.index-as_slice-rule.is ∙ ap (λ l. get_or l c.loop-rule.rule one) c.as_slice.ensures.value)
    (c.first_in_rule.ensures.absent c.in_default.is) c.loop-rule.invariant
