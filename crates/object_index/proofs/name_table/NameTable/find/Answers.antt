use Rattle.std.proofs.Common.{◌∙◌, ap, sym}
use Rattle.std.specs.Prelude.{position}
use Rattle.std.specs.Str.{bytes_eq}
use Rattle.rule_types.specs.Finding.{finds}
use Rattle.object_index.proofs.Indexing.{found-caseless, none-there}
use Rattle.object_index.proofs.name_table.NameTable.find.Goals as goal

pub returns-in_default-to_ascii_lowercase-clause-same_bytes :
    goal.returns-in_default-to_ascii_lowercase-clause-same_bytes
returns-in_default-to_ascii_lowercase-clause-same_bytes c =
    none-there (bytes_eq c.args.name.now) c.args.self.now
    (sym c.position.ensures.value ∙ c.in_default.is)

pub returns-clause-value : goal.returns-clause-value
returns-clause-value c =
    found-caseless c.self.inside.names.items c.args.name.now c.as_slice.result.now
    c.self.inside.exact c.self.inside.caseless c.place_of.result c.self.invariant
    (ap (position (bytes_eq c.args.name.now)) c.self.view_is
    ∙ sym c.position.ensures.value ∙ c.in_default.is)
    (c.as_slice.ensures.value ∙ c.in-Ok.ensures.ok) c.place_of.ensures
    ∙ ap (λ names. finds names c.args.name.now) c.self.view_is
