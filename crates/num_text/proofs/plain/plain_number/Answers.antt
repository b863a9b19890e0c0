use Rattle.std.proofs.Common.{refl, sym, ◌∙◌, arith}
use Rattle.std.proofs.lemmas.List.{take_rest}
use Rattle.num_text.proofs.PlainDecimals.{plain-whole, plain-point, none-left, some-left}
use Rattle.num_text.proofs.plain.plain_number.Goals as goal

pub returns-then-is_empty : goal.returns-then-is_empty
returns-then-is_empty c =
    let rest = c.in_ok-whole.whole.rest.now in
    let digits = c.past_sign-digits.result.now in
    let ended = none-left rest (sym c.is_empty.ensures ∙ c.if-is_empty.true) in
    let some = some-left digits (sym c.is_empty-then-is_empty.ensures ∙ c.if-is_empty-2.false) in
    record {
      value = plain-whole c.args.text.now digits rest c.in_ok-whole.whole.number c.decimal.result c.past_sign-digits.ensures.value
          c.in_ok-whole.ensures.rest ended some c.in_ok-whole.ensures.number (rw c.is_negative.ensures.value at c.decimal.ensures.value);
    }

pub returns : goal.returns
returns c =
    let rest = c.in_ok-whole.whole.rest.now in
    let digits = c.past_sign-digits.result.now in
    let more = some-left rest (sym c.is_empty.ensures ∙ c.if-is_empty.false) in
    let left = c.in_ok-all.all.rest.now in
    let ended = none-left left (sym c.is_empty-2.ensures ∙ c.if-not-is_empty.false) in
    record {
      value = plain-point c.args.text.now digits rest _ left c.in_ok-whole.whole.number c.in_ok-all.all.number _ c.decimal-2.result
          c.past_sign-digits.ensures.value c.in_ok-whole.ensures.rest more c.if-whole-ne46.false (take_rest rest 1) (omega arith)
          c.in_ok-whole.ensures.number c.in_ok-all.ensures.rest ended c.in_ok-all.ensures.number refl
          (rw c.is_negative-2.ensures.value at c.decimal-2.ensures.value);
    }
