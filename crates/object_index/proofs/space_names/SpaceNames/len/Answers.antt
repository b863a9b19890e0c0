use Rattle.std.proofs.Common.{◌∙◌, ap, sym, length}
use Rattle.object_index.proofs.Spaces.{length-objects_of}
use Rattle.object_index.proofs.space_names.SpaceNames.len.Goals as goal

pub returns-clause-value : goal.returns-clause-value
returns-clause-value c =
    c.len.ensures.value
    ∙ sym (length-objects_of c.self.inside.names c.self.inside.kinds.items c.self.invariant)
    ∙ ap length c.self.view_is
