use Rattle.std.proofs.Common.{◌∙◌, ap, List}
use Rattle.std.specs.Prelude.{option_map, slice_get}
use Rattle.object_index.specs.Objects.{Object}
use Rattle.object_index.proofs.Spaces.{kind-objects_of}
use Rattle.object_index.proofs.space_names.SpaceNames.kind.Goals as goal

pub returns : goal.returns
returns c =
    c.kind_at.ensures
    ∙ ap (λ kinds. slice_get kinds c.args.number) c.as_slice.ensures.value
    ∙ kind-objects_of c.self.inside.names c.self.inside.kinds.items c.args.number c.self.invariant
    ∙ ap (λ (objects : List Object).
    option_map (λ (held : Object). held.kind) (slice_get objects c.args.number)) c.self.view_is
