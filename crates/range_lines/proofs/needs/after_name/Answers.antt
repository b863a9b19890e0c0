use Rattle.std.proofs.Common.{◌∙◌, ap, sym}
use Rattle.range_lines.proofs.Firsts.{name_found}
use Rattle.range_lines.specs.internal.Views.{earlier_of}
use Rattle.range_lines.proofs.needs.after_name.Goals as goal

pub returns : goal.returns
returns c =
    c.earlier_of.ensures ∙ ap (earlier_of c.args.found) c.held_at.ensures
    ∙ sym (name_found c.args.given.now c.args.names.now c.args.finds.now c.args.found c.args.name c.requires.finds)
