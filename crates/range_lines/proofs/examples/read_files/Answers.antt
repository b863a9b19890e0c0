use Rattle.std.proofs.Common.{refl}
use Rattle.range_lines.proofs.ExampleWords.{file_words}
use Rattle.range_lines.proofs.examples.read_files.Goals as goal

pub returns : goal.returns
unfolding file_words
returns c = record {
  default_questions = refl;
  questions = refl;
  moments_and_step = refl;
}
