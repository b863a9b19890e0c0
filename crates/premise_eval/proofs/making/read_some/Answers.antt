use Rattle.rule_meaning.specs.Formula.{is_used, names_stop_for}
use Rattle.rule_meaning.specs.SomeRules.{rules_at}
use Rattle.premise_eval.proofs.making.read_some.Goals as goal

pub returns-in-Err-clause-stop : goal.returns-in-Err-clause-stop
unfolding names_stop_for
returns-in-Err-clause-stop c =
    c.in-Err.ensures.stop (is_used c.args.rules.now (rules_at c.args.rules.now.rules c.args.only.now)) c.mark_some.ensures.marks

pub returns-clause-stop : goal.returns-clause-stop
unfolding names_stop_for
returns-clause-stop c =
    c.in_default.ensures.stop (is_used c.args.rules.now (rules_at c.args.rules.now.rules c.args.only.now)) c.mark_some.ensures.marks

pub returns-clause-made : goal.returns-clause-made
returns-clause-made c =
    c.in_default.ensures.made (is_used c.args.rules.now (rules_at c.args.rules.now.rules c.args.only.now)) c.mark_some.ensures.marks
