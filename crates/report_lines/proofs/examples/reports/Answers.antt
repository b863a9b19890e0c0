use Rattle.std.proofs.Common.{refl}
use Rattle.report_lines.proofs.ExampleWords.{report_words}
use Rattle.report_lines.proofs.examples.reports.Goals as goal

pub returns : goal.returns
unfolding report_words
returns c = record {
  no_entry = refl;
  tree = refl;
  tree_with_facts = refl;
  states = refl;
  cell_and_count = refl;
}
