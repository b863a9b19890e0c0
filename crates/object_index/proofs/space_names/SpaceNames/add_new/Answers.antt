use Rattle.std.proofs.Common.{◌∙◌, ◌++◌, ◌∷◌, [], List, ap, sym, length, arith}
use Rattle.std.specs.List.{list_any}
use Rattle.std.specs.Str.{bytes_eq}
use Rattle.object_index.specs.Objects.{Object, is_named, and_object}
use Rattle.object_index.specs.internal.Objects.{objects_of}
use Rattle.object_index.proofs.Spaces.{names-objects_of, length-objects_of, objects-push}
use Rattle.object_index.proofs.space_names.SpaceNames.add_new.Goals as goal

pub add_new-requires-clause-few : goal.add_new-requires-clause-few
add_new-requires-clause-few c =
    let long = length-objects_of c.self.inside.names c.self.inside.kinds.items c.self.invariant in
    let all = ap length c.self.view_is in
    omega (arith, long, all, c.requires.few)

pub add_new-requires-clause-absent : goal.add_new-requires-clause-absent
add_new-requires-clause-absent c =
    ap (list_any (bytes_eq c.args.name.now))
    (sym (names-objects_of c.self.inside.names c.self.inside.kinds.items c.self.invariant))
    ∙ ap (is_named c.args.name.now) c.self.view_is ∙ c.requires.absent

pub returns-in-Ok-add_new-clause-number : goal.returns-in-Ok-add_new-clause-number
returns-in-Ok-add_new-clause-number c =
    c.in-Ok-add_new.ensures.number
    ∙ sym (length-objects_of c.self.inside.names c.self.inside.kinds.items c.self.invariant)
    ∙ ap length c.self.view_is

pub returns-in-Ok-add_new-clause-added : goal.returns-in-Ok-add_new-clause-added
returns-in-Ok-add_new-clause-added c =
    ap (λ names. objects_of names c.push.new.self.items) c.in-Ok-add_new.ensures.added
    ∙ ap (objects_of (c.self.inside.names ++ c.args.name.now ∷ [])) c.in-Ok.ensures.items
    ∙ objects-push c.self.inside.names c.self.inside.kinds.items c.args.name.now c.args.kind
    c.self.invariant
    ∙ ap (λ (objects : List Object). and_object objects c.args.kind c.args.name.now) c.self.view_is
