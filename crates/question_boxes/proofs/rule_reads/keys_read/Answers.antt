use Rattle.std.proofs.Common.{◌≡◌, ◌++◌, ◌∙◌, [], ap, sym, length, arith}
use Rattle.std.specs.Prelude.{filter, filter_map, if◌then◌else◌, slice_get}
use Rattle.std.specs.List.{range_with_len}
use Rattle.rule_types.specs.Reading.{keys_read}
use Rattle.verdict_meaning.specs.Questions.{asked_numbers, is_asked}
use Rattle.question_boxes.specs.internal.KeyLists.{rule_reads}
use Rattle.question_boxes.proofs.AskedRules.{asked_more}
use Rattle.question_boxes.proofs.rule_reads.keys_read.Goals as goal

pub loop-number-preserved : goal.loop-number-preserved
loop-number-preserved c =
    let names = c.args.rules.now.names in
    let asks = is_asked c.args.rules.now c.args.question.now in
    let get = slice_get c.args.rules.now.rules in
    let n = c.loop-number.number in (
      c.in_ok-add_asked.ensures.adds.keys
          ∙ ap (λ list. list ++ (if asks n then rule_reads names (get n) else [])) c.loop-number.invariant.0
          ∙ sym (asked_more names asks get n),
      omega (arith, c.loop-number-test.true, c.len-number-end.ensures.value),
    )

pub returns : goal.returns
unfolding asked_numbers
returns c =
    let all : c.loop-number.number ≡ length c.args.rules.now.rules = omega (arith, c.loop-number-test.false, c.loop-number.invariant.1, c.len-number-end.ensures.value) in
    record {
      keys =
          c.loop-number.invariant.0
          ∙ ap
          (λ k.
          keys_read c.args.rules.now.names
          (filter_map (slice_get c.args.rules.now.rules)
          (filter (is_asked c.args.rules.now c.args.question.now) (range_with_len 0 k)))) all;
    }
