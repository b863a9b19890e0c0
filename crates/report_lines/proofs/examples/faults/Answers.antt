use Rattle.std.proofs.Common.{refl}
use Rattle.report_lines.proofs.ExampleWords.{report_words}
use Rattle.report_lines.proofs.examples.faults.Goals as goal

pub returns : goal.returns
unfolding report_words
returns c = record {
  empty = refl;
  version = refl;
  no_end = refl;
  line_behind_end = refl;
  no_verdict = refl;
  padded_count = refl;
  no_tree = refl;
  other_key = refl;
  no_moments = refl;
  two_trees = refl;
  falling_facts = refl;
  no_fact = refl;
  half_a_fact = refl;
  fact_of_version_1 = refl;
  no_value = refl;
  timer_of_stopped = refl;
  other_word = refl;
  long_line = refl;
}
