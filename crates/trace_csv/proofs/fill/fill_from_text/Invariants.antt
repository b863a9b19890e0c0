use Rattle.std.proofs.Common.{◌≡◌, drop, length, option_map}
use Rattle.trace_csv.specs.internal.Filling.{filled, cut_behind}
use Rattle.trace_csv.proofs.fill.fill_from_text.Given as goal

abbrev pub invariant-loop-at : goal.invariant-loop-at
invariant-loop-at l = record {
  filled : filled (drop l.at l.columns) (cut_behind (option_map (λ rest. rest.now) l.behind)) l.inputs
      ≡ filled l.columns (cut_behind (option_map (λ rest. rest.now) l.fn.text)) l.fn.inputs;
  long : length l.inputs ≡ length l.fn.inputs;
}
