use Rattle.std.proofs.Common.{◌+◌, ◌*◌, ◌-◌, get_or, ap, sym, ◌∙◌}
use Rattle.std.specs.Char.{is_ascii_digit}
use Rattle.trace_csv.proofs.PlainNumbers.{one_more, one_more_of}
use Rattle.trace_csv.proofs.plain_number.digits_at_head.Goals as goal

pub loop-at-preserved : goal.loop-at-preserved
loop-at-preserved c =
    let digit = sym c.is_ascii_digit.ensures.value ∙ c.if-not-is_ascii_digit.false in
    record {
      alone = one_more_of is_ascii_digit c.args.text.now c.loop-at.at c.loop-at-test.true c.loop-at.invariant.alone digit;
      value = c.in_ok-number.ensures.value ∙ ap (λ n. n * 10 + (get_or c.args.text.now c.loop-at.at 0 - 48)) c.loop-at.invariant.value
          ∙ sym (one_more c.args.front c.args.text.now c.loop-at.at c.loop-at-test.true digit);
      small = c.in_ok-number.ensures.small;
    }
