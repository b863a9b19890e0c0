use Rattle.std.proofs.Common.{◌∙◌, ap, sym}
use Rattle.rule_types.specs.Finding.{finds}
use Rattle.object_index.specs.Objects.{names_of}
use Rattle.object_index.proofs.Spaces.{names-objects_of}
use Rattle.object_index.proofs.space_names.SpaceNames.find.Goals as goal

pub returns : goal.returns
returns c =
    c.in_ok-found.ensures.value
    ∙ ap (λ names. finds names c.args.name.now)
    (sym (names-objects_of c.self.inside.names c.self.inside.kinds.items c.self.invariant)
    ∙ ap names_of c.self.view_is)
