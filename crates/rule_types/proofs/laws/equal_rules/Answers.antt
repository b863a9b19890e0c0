-- The `==` of rules and their parts tells whether two are equal.
use Rattle.rule_types.proofs.PublicLaws.{equal_rules-side, equal_rules-right, equal_rules-condition, equal_rules-curve_no, equal_rules-series_no, equal_rules-pid_set, equal_rules-what, equal_rules-action, equal_rules-branch, equal_rules-action_at}
use Rattle.rule_types.proofs.laws.equal_rules.Goals as goal

pub returns : goal.returns
returns c = record { side = equal_rules-side; right = equal_rules-right; condition = equal_rules-condition; curve_no = equal_rules-curve_no; series_no = equal_rules-series_no; pid_set = equal_rules-pid_set; what = equal_rules-what; action = equal_rules-action; branch = equal_rules-branch; action_at = equal_rules-action_at }
