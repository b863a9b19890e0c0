use Rattle.std.proofs.Common.{◌≡◌, ◌+◌, ◌++◌, ◌∷◌, [], ap₂, sym, ◌∙◌, arith}
use Rattle.std.proofs.lemmas.List.FromFn.{map-range_with_len_more}
use Rattle.verdict_meaning.specs.Questions.{is_asked}
use Rattle.report_reader.proofs.grid.asked_of.Goals as goal

pub loop-number-preserved : goal.loop-number-preserved
loop-number-preserved c =
    let x = c.args.rules.now in
    let question = c.args.question.now in
    let number = c.loop-number.number in
    let from : 0 + number ≡ number = omega arith in
    c.in-Ok.ensures.pushed
    ∙ ap₂ (λ l b. l ++ b ∷ []) c.loop-number.invariant c.is_asked.ensures.value
    ∙ sym (map-range_with_len_more (is_asked x question) 0 number number from)
