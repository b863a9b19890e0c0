use Rattle.std.proofs.Common.{refl}
use Rattle.rule_parser.proofs.ExampleWords.{line_words}
use Rattle.rule_parser.proofs.laws.name_examples.Goals as goal

pub returns : goal.returns
unfolding line_words
returns c = record {
  new = refl;
  status = refl;
  function = refl;
  again = refl;
  word = refl;
  simulation = refl;
  digit_first = refl;
  last_name = refl;
  no_room = refl;
  hyphen = refl;
}
