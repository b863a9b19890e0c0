use Rattle.std.proofs.Common.{◌∙◌, ap, sym}
use Rattle.std.specs.List.{list_any}
use Rattle.std.specs.Str.{bytes_eq}
use Rattle.object_index.specs.Objects.{is_named}
use Rattle.object_index.proofs.Spaces.{names-objects_of}
use Rattle.object_index.proofs.space_names.SpaceNames.contains.Goals as goal

pub returns : goal.returns
returns c =
    c.contains.ensures.value
    ∙ ap (list_any (bytes_eq c.args.name.now))
    (sym (names-objects_of c.self.inside.names c.self.inside.kinds.items c.self.invariant))
    ∙ ap (is_named c.args.name.now) c.self.view_is
