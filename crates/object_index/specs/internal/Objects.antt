-- The objects of a space as a list of names and a list of kinds.
use Rattle.std.specs.Prelude.{ℕ, List, [], ◌∷◌}
use Rattle.rule_types.specs.declared.object.ObjectKind.{ObjectKind}
use Rattle.object_index.specs.Objects.{Object}

-- the objects of these names and kinds
abbrev pub objects_of : List (List ℕ) → List ObjectKind → List Object
objects_of [] kinds = []
objects_of (name ∷ names) [] = []
objects_of (name ∷ names) (kind ∷ kinds) =
    record { name = name; kind = kind } ∷ objects_of names kinds
