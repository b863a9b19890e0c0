use Rattle.std.proofs.Common.{[], ap, sym, ◌∙◌}
use Rattle.curves_series.specs.Series.{is_file_word}
use Rattle.curves_series.proofs.EntrySteps.{two_up}
use Rattle.curves_series.proofs.series.is_file_word.Goals as goal

pub returns-in-len2-up : goal.returns-in-len2-up
returns-in-len2-up c = record {
  value =
      c.says_file.ensures.value
      ∙ sym (ap is_file_word (two_up c.args.found.now (record { ref_ptr = (0, 0); now = [] }) _ c.in-len2-up.len_at_least));
}
