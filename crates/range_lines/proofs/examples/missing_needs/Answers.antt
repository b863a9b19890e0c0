use Rattle.std.proofs.Common.{refl}
use Rattle.range_lines.proofs.ExampleWords.{file_words}
use Rattle.range_lines.proofs.examples.missing_needs.Goals as goal

pub returns : goal.returns
unfolding file_words
returns c = record {
  first_key = refl;
  timer = refl;
  range_first = refl;
  clock = refl;
  series = refl;
}
