use Rattle.std.proofs.Common.{ap, sym, ◌∙◌}
use Rattle.inp_text.specs.Items.{before_comment}
use Rattle.inp_text.specs.internal.FirstItems.{take_solid, drop_blanks}
use Rattle.inp_text.proofs.FirstItem.{first_of-front}
use Rattle.inp_text.proofs.heading.front_item.Goals as goal

pub returns : goal.returns
returns c =
    c.without_rest.ensures
    ∙ ap take_solid c.without_blanks.ensures
    ∙ ap (λ text. take_solid (drop_blanks text)) c.without_comment.ensures
    ∙ sym (first_of-front (before_comment c.args.line.now))
