use Rattle.std.proofs.Common.{◌≡◌, ◌∙◌, ◌++◌, ◌∷◌, [], List, None, ◌<◌, ◌^◌, ap, sym, subst, length}
use Rattle.expr_parser.specs.declared.name_index.DeclaredName.{DeclaredName}
use Rattle.expr_parser.specs.Names.{place_of}
use Rattle.expr_parser.proofs.Indexing.{indexed-more}
use Rattle.expr_parser.proofs.name_index.NameIndex.add_new.Goals as goal

pub invariant_of-self-2 : goal.invariant_of-self-2
invariant_of-self-2 c =
    let declared : DeclaredName =
    record { name = c.from_vec.result; is_variable = c.args.is_variable } in
    indexed-more c.self.inside.names.items c.push.new.self.items declared c.args.name.now
    c.in-Ok-to_ascii_lowercase.lower.items c.len-number.result c.self.inside.numbers
    c.insert.new.self c.self.invariant
    (subst (λ (names : List DeclaredName). length names < 2 ^ 32) (sym c.self.view_is)
    c.requires.few)
    (subst (λ (names : List DeclaredName). place_of names c.args.name.now ≡ None)
    (sym c.self.view_is) c.requires.absent)
    c.in-Ok-to_ascii_lowercase.ensures.ok (c.from_vec.ensures.value ∙ c.in-Ok.ensures.items)
    (c.len-number.ensures ∙ c.self.inside.names.ok.0)
    (c.in-Ok-push.ensures.items
    ∙ ap (λ (names : List DeclaredName). names ++ declared ∷ []) c.reserve.ensures.items)
    c.in-Ok-insert.ensures.updates
