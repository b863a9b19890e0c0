use Rattle.std.proofs.Common.{refl}
use Rattle.rule_parser.proofs.ExampleWords.{line_words}
use Rattle.rule_parser.proofs.laws.limit_examples.Goals as goal

pub returns : goal.returns
unfolding line_words
returns c = record {
  last_rule = refl;
  no_rule = refl;
}
