use Rattle.std.proofs.Common.{refl}
use Rattle.report_lines.proofs.ExampleWords.{line_words}
use Rattle.report_lines.proofs.examples.pieces.Goals as goal

pub returns : goal.returns
unfolding line_words
returns c = record {
  open_piece = refl;
  half_open = refl;
  whole_line = refl;
  point = refl;
  empty = refl;
  falling = refl;
  no_end_held = refl;
  padded = refl;
  three_ends = refl;
  nothing = refl;
}
