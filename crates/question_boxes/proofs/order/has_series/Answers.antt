use Rattle.std.proofs.Common.{◌≡◌, ◌<◌, ◌&&◌, ◌∙◌, ap, sym, length, arith}
use Rattle.std.specs.Prelude.{slice_get}
use Rattle.std.specs.List.{list_any, range_with_len}
use Rattle.verdict_meaning.specs.Questions.{asked_numbers, is_asked}
use Rattle.question_boxes.specs.internal.KeyLists.{rule_has_series}
use Rattle.question_boxes.proofs.AskedRules.{any_asked, none_so_far, one_passes}
use Rattle.question_boxes.proofs.order.has_series.Goals as goal

pub returns-then-asked_has_series : goal.returns-then-asked_has_series
unfolding asked_numbers
returns-then-asked_has_series c =
    let asks = is_asked c.args.rules.now c.args.question.now in
    let get = slice_get c.args.rules.now.rules in
    let within : c.loop-number.number < length c.args.rules.now.rules = omega (arith, c.loop-number-test.true, c.len-number-end.ensures.value) in
    record {
      value =
          sym
          (any_asked asks get (range_with_len 0 (length c.args.rules.now.rules))
          ∙ one_passes (λ n. asks n && rule_has_series (get n)) (length c.args.rules.now.rules)
          c.loop-number.number within
          (sym c.asked_has_series.ensures.value ∙ c.if-asked_has_series.true));
    }

pub loop-number-preserved : goal.loop-number-preserved
loop-number-preserved c = (
  none_so_far
      (λ n.
      is_asked c.args.rules.now c.args.question.now n
      && rule_has_series (slice_get c.args.rules.now.rules n)) c.loop-number.number
      c.loop-number.invariant.0
      (sym c.asked_has_series.ensures.value ∙ c.if-asked_has_series.false),
  omega (arith, c.loop-number-test.true, c.len-number-end.ensures.value),
)

pub returns : goal.returns
unfolding asked_numbers
returns c =
    let all : c.loop-number.number ≡ length c.args.rules.now.rules = omega (arith, c.loop-number-test.false, c.loop-number.invariant.1, c.len-number-end.ensures.value) in
    let asks = is_asked c.args.rules.now c.args.question.now in
    let get = slice_get c.args.rules.now.rules in
    record {
      value =
          sym
          (any_asked asks get (range_with_len 0 (length c.args.rules.now.rules))
          ∙ ap (λ k. list_any (λ n. asks n && rule_has_series (get n)) (range_with_len 0 k))
          (sym all)
          ∙ c.loop-number.invariant.0);
    }
