use Rattle.std.proofs.Common.{◌+◌, ◌/◌, ◌%◌, ◌++◌, [], ◌∷◌, sym, ap, ◌∙◌, arith}
use Rattle.std.specs.Fmt.{decimal}
use Rattle.std.proofs.lemmas.Fmt.{decimal_digit, decimal_step}
use Rattle.std.proofs.lemmas.Result.{on_ok_weaker}
use Rattle.report_text.proofs.Joining.{two_parts}
use Rattle.report_text.proofs.numbers.+write_count.Goals as goal

pub returns-then-count-lt10 : goal.returns-then-count-lt10
returns-then-count-lt10 t c =
    on_ok_weaker c.write_digit.result
    (λ end. end ∙ ap (λ text. c.args.out.now.items ++ text) (sym (decimal_digit c.args.count (omega arith))))
    c.write_digit.ensures

pub returns : goal.returns
returns t c =
    let count = c.args.count in
    on_ok_weaker c.write_digit-2.result
    (λ end. two_parts c.args.out.now.items (decimal (count / 10)) ((48 + count % 10) ∷ []) c.write_count.new.out.items
    c.write_digit-2.new.out.items (decimal count) c.in_ok-write_count.ensures end
    (sym (decimal_step count (omega arith) (omega arith)))) c.write_digit-2.ensures
