use Rattle.std.proofs.Common.{◌∙◌, ap, List}
use Rattle.std.specs.Prelude.{option_map, slice_get}
use Rattle.object_index.specs.Objects.{Object}
use Rattle.object_index.proofs.Spaces.{name-objects_of}
use Rattle.object_index.proofs.space_names.SpaceNames.name.Goals as goal

pub returns : goal.returns
returns c =
    c.name.ensures.value
    ∙ name-objects_of c.self.inside.names c.self.inside.kinds.items c.args.number c.self.invariant
    ∙ ap (λ (objects : List Object).
    option_map (λ (held : Object). held.name) (slice_get objects c.args.number)) c.self.view_is
