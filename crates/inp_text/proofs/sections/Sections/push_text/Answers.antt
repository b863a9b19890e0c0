use Rattle.std.proofs.Common.{sym, ◌∙◌, refl}
use Rattle.inp_text.proofs.Representing.{Represents-none, empty-of}
use Rattle.inp_text.proofs.sections.Sections.push_text.Goals as goal

pub returns-then-is_empty-clause-taken : goal.returns-then-is_empty-clause-taken
returns-then-is_empty-clause-taken c =
    Represents-none _ _ c.args.line.now (sym c.front_item-item.ensures ∙ empty-of c.front_item-item.result.now (sym c.is_empty.ensures ∙ c.if-is_empty.true)) refl refl refl refl
