use Rattle.std.proofs.Common.{◌∙◌, ◌++◌, ◌∷◌, [], List, ℕ, ◌<◌, ◌^◌, ap, sym, subst, length, false}
use Rattle.std.specs.Prelude.{◌≡◌}
use Rattle.std.specs.List.{list_any}
use Rattle.std.specs.Str.{bytes_eq}
use Rattle.object_index.proofs.Indexing.{indexed-undone, indexed-more}
use Rattle.object_index.proofs.name_table.NameTable.add_new.Goals as goal

pub invariant_of-self-in_default-add_place-2 : goal.invariant_of-self-in_default-add_place-2
invariant_of-self-in_default-add_place-2 c =
    indexed-undone c.self.inside.names.items c.reserve.new.self.items c.args.name.now
    c.in-Ok-from_slice.copy.items c.len-number.result c.self.inside.exact c.add_place.new.map
    c.remove_place.new.map c.self.inside.caseless c.add_place-2.new.map c.self.invariant
    (subst (λ (names : List (List ℕ)). list_any (bytes_eq c.args.name.now) names ≡ false)
    (sym c.self.view_is) c.requires.absent)
    c.in-Ok-from_slice.ensures.items c.reserve.ensures.items c.in-Ok-add_place.ensures.added
    c.remove_place.ensures c.in_default-add_place-2.ensures.unchanged

pub invariant_of-self-2 : goal.invariant_of-self-2
invariant_of-self-2 c =
    indexed-more c.self.inside.names.items c.push.new.self.items c.args.name.now
    c.in-Ok-from_slice.copy.items c.in-Ok-to_ascii_lowercase.folded.items c.len-number.result
    c.self.inside.exact c.add_place.new.map c.self.inside.caseless c.add_place-2.new.map
    c.self.invariant
    (subst (λ (names : List (List ℕ)). length names < 2 ^ 32) (sym c.self.view_is) c.requires.few)
    (subst (λ (names : List (List ℕ)). list_any (bytes_eq c.args.name.now) names ≡ false)
    (sym c.self.view_is) c.requires.absent)
    c.in-Ok-from_slice.ensures.items c.in-Ok-to_ascii_lowercase.ensures.ok
    (c.len-number.ensures.value ∙ ap length (sym c.self.view_is))
    (c.in-Ok-push.ensures.items
    ∙ ap (λ (names : List (List ℕ)). names ++ c.from_vec.result ∷ []) c.reserve.ensures.items
    ∙ ap (λ name. c.self.inside.names.items ++ name ∷ [])
    (c.from_vec.ensures.value ∙ c.in-Ok.ensures.items))
    c.in-Ok-add_place.ensures.added c.in-Ok-add_place-2.ensures.added
