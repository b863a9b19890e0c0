-- The objects of a space as names and kinds.
use Rattle.std.proofs.Common.{◌≡◌, ℕ, zero, suc, Bool, false, List, [], ◌∷◌, ◌++◌, Option, None, Some}
use Rattle.std.proofs.Common.{length, take, refl, ap, sym, subst, ◌∙◌, arith}
use Rattle.std.specs.Prelude.{option_map, slice_get}
use Rattle.std.specs.List.{list_any}
use Rattle.std.specs.Str.{bytes_eq}
use Rattle.rule_types.specs.declared.object.ObjectKind.{ObjectKind}
use Rattle.object_index.specs.Objects.{Object, names_of, is_named, and_object}
use Rattle.object_index.specs.internal.Objects.{objects_of}

pub names-objects_of : (names : List (List ℕ)) (kinds : List ObjectKind)
    → length kinds ≡ length names → names_of (objects_of names kinds) ≡ names
names-objects_of [] kinds e = refl
names-objects_of (name ∷ names) [] e = cc
names-objects_of (name ∷ names) (kind ∷ kinds) e =
    ap (λ l. name ∷ l) (names-objects_of names kinds (omega (arith, e)))

pub length-objects_of : (names : List (List ℕ)) (kinds : List ObjectKind)
    → length kinds ≡ length names → length (objects_of names kinds) ≡ length names
length-objects_of [] kinds e = refl
length-objects_of (name ∷ names) [] e = cc
length-objects_of (name ∷ names) (kind ∷ kinds) e =
    ap suc (length-objects_of names kinds (omega (arith, e)))

pub name-objects_of : (names : List (List ℕ)) (kinds : List ObjectKind) (at : ℕ)
    → length kinds ≡ length names
    → slice_get names at ≡ option_map (λ held. held.name) (slice_get (objects_of names kinds) at)
name-objects_of [] kinds at e = refl
name-objects_of (name ∷ names) [] at e = cc
name-objects_of (name ∷ names) (kind ∷ kinds) zero e = refl
name-objects_of (name ∷ names) (kind ∷ kinds) (suc at) e =
    name-objects_of names kinds at (omega (arith, e))

pub kind-objects_of : (names : List (List ℕ)) (kinds : List ObjectKind) (at : ℕ)
    → length kinds ≡ length names
    → slice_get kinds at ≡ option_map (λ held. held.kind) (slice_get (objects_of names kinds) at)
kind-objects_of [] [] at e = refl
kind-objects_of [] (kind ∷ kinds) at e = cc
kind-objects_of (name ∷ names) [] at e = cc
kind-objects_of (name ∷ names) (kind ∷ kinds) zero e = refl
kind-objects_of (name ∷ names) (kind ∷ kinds) (suc at) e =
    kind-objects_of names kinds at (omega (arith, e))

-- the objects after one more
pub objects-push : (names : List (List ℕ)) (kinds : List ObjectKind) (name : List ℕ)
    (kind : ObjectKind) → length kinds ≡ length names
    → objects_of (names ++ name ∷ []) (kinds ++ kind ∷ [])
    ≡ and_object (objects_of names kinds) kind name
objects-push [] [] name kind e = refl
objects-push [] (k ∷ kinds) name kind e = cc
objects-push (n ∷ names) [] name kind e = cc
objects-push (n ∷ names) (k ∷ kinds) name kind e =
    ap (λ l. record { name = n; kind = k } ∷ l) (objects-push names kinds name kind (omega (arith, e)))
