use Rattle.std.proofs.Common.{◌∙◌, sym}
use Rattle.num_text.proofs.Bounds.{end_some}
use Rattle.num_text.proofs.numbers.are_none.Goals as goal

pub returns-else-is_empty : goal.returns-else-is_empty
returns-else-is_empty c =
    record { value = c.if-is_empty.false ∙ end_some c.args.whole.now c.args.behind.now (sym c.is_empty.ensures ∙ c.if-is_empty.false) }
