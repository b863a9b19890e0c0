use Rattle.std.proofs.Common.{◌∷◌, [], ◌++◌, ◌∙◌, ap, sym, map, arith}
use Rattle.std.specs.List.{range_with_len}
use Rattle.std.proofs.lemmas.List.FromFn.{map-range_with_len_more}
use Rattle.box_eval.specs.internal.Known.{asked_truth}
use Rattle.box_eval.proofs.truths.truths_in.Goals as goal

pub loop-number-preserved : goal.loop-number-preserved
loop-number-preserved c = (
  c.in_ok-push.ensures.items
      ∙ ap (λ list. list ++ c.asked_truth-truth.result ∷ []) c.loop-number.invariant.0
      ∙ ap
      (λ t.
      map (asked_truth c.args.rules.now c.args.question.now c.args.cell.now)
      (range_with_len 0 c.loop-number.number) ++ t ∷ []) c.asked_truth-truth.ensures.value
      ∙ sym
      (map-range_with_len_more
      (asked_truth c.args.rules.now c.args.question.now c.args.cell.now) 0 c.loop-number.number
      c.loop-number.number (omega arith)),
  omega (arith, c.loop-number-test.true, c.len-number-end.ensures.value),
)
