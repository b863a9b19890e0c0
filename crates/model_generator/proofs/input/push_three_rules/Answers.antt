use Rattle.std.proofs.Common.{rules}
use Rattle.std.specs.Prelude.{codes}
use Rattle.model_generator.specs.InputFile.{rule_text}
use Rattle.model_generator.proofs.Repeated.{three}
use Rattle.model_generator.proofs.input.push_three_rules.Goals as goal

pub returns : goal.returns
returns c =
    three c.args.text.now.items c.push_rule.new.text.items c.push_rule-2.new.text.items c.push_rule-3.new.text.items
    (rule_text (codes "RULE A") (codes " DEPTH > 6\nTHEN PUMP P") (codes " STATUS = ON\n") c.args.number)
    (rule_text (codes "RULE B") (codes " DEPTH < 3\nTHEN PUMP P") (codes " STATUS = OFF\n") c.args.number)
    (rule_text (codes "RULE C") (codes " DEPTH > 8\nTHEN PUMP P") (codes " SETTING = 2\nPRIORITY 1\n") c.args.number)
    c.in_ok-push_rule.ensures c.in_ok-push_rule-2.ensures c.in_ok-push_rule-3.ensures
