use Rattle.rule_parser.proofs.WholeRules.{rules_whole, objects_held}
use Rattle.rule_parser.proofs.laws.whole_rules.Goals as goal

pub returns : goal.returns
returns c = record { whole = rules_whole; held = objects_held }
