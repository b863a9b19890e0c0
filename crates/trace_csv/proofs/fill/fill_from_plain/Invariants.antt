use Rattle.std.proofs.Common.{◌≡◌, ◌+◌, true, drop, length, option_map}
use Rattle.std.specs.List.{list_all}
use Rattle.trace_csv.specs.Records.{cut_at_commas, is_plain}
use Rattle.trace_csv.specs.internal.Filling.{filled, cut_behind, is_plain_behind}
use Rattle.trace_csv.proofs.fill.fill_from_plain.Given as goal

abbrev pub invariant-loop-at : goal.invariant-loop-at
invariant-loop-at l = record {
  filled : filled (drop l.at l.columns) (cut_behind (option_map (λ rest. rest.now) l.behind)) l.inputs
      ≡ filled l.columns (cut_at_commas l.text) l.fn.inputs;
  plain : is_plain_behind (option_map (λ rest. rest.now) l.behind) ≡ true → list_all is_plain l.text ≡ true;
  count : l.at + length (cut_behind (option_map (λ rest. rest.now) l.behind)) ≡ length (cut_at_commas l.text);
  long : length l.inputs ≡ length l.fn.inputs;
}
