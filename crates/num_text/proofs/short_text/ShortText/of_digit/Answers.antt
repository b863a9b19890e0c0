use Rattle.std.proofs.Common.{ap, sym, ◌++◌, ◌∷◌, [], ◌+◌, ◌∙◌}
use Rattle.std.proofs.lemmas.Fmt.{decimal_digit}
use Rattle.num_text.proofs.short_text.ShortText.of_digit.Goals as goal

pub returns : goal.returns
returns c =
    record { value = c.push.ensures.value ∙ ap (λ front. front ++ (48 + c.args.digit) ∷ []) c.new-text.ensures.value ∙ sym (decimal_digit c.args.digit c.requires.digit) }
