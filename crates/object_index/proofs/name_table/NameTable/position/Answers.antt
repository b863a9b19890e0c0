use Rattle.std.proofs.Common.{◌∙◌, ap, sym}
use Rattle.std.specs.Prelude.{position}
use Rattle.std.specs.Str.{bytes_eq}
use Rattle.rule_types.specs.Finding.{finds}
use Rattle.object_index.proofs.Indexing.{number_in, found-position, found-same}
use Rattle.object_index.proofs.name_table.NameTable.position.Goals as goal

pub returns-in-Nothing-clause-value : goal.returns-in-Nothing-clause-value
returns-in-Nothing-clause-value c =
    sym (ap number_in c.in-Nothing.is)
    ∙ found-position c.self.inside.names.items c.args.name.now c.self.inside.exact
    c.self.inside.caseless c.place_of.result c.self.invariant c.place_of.ensures
    ∙ ap (position (bytes_eq c.args.name.now)) c.self.view_is

pub returns-in-At-clause-value : goal.returns-in-At-clause-value
returns-in-At-clause-value c =
    sym (ap number_in c.in-At.is)
    ∙ found-position c.self.inside.names.items c.args.name.now c.self.inside.exact
    c.self.inside.caseless c.place_of.result c.self.invariant c.place_of.ensures
    ∙ ap (position (bytes_eq c.args.name.now)) c.self.view_is

pub returns-in-At-clause-found : goal.returns-in-At-clause-found
returns-in-At-clause-found c =
    sym (found-same c.self.inside.names.items c.args.name.now c.self.inside.exact
    c.self.inside.caseless c.in-At.number c.self.invariant
    (sym (found-position c.self.inside.names.items c.args.name.now c.self.inside.exact
    c.self.inside.caseless c.place_of.result c.self.invariant c.place_of.ensures)
    ∙ ap number_in c.in-At.is)
    ∙ ap (λ names. finds names c.args.name.now) c.self.view_is)

pub returns-in-Several-clause-value : goal.returns-in-Several-clause-value
returns-in-Several-clause-value c =
    sym (ap number_in c.in-Several.is)
    ∙ found-position c.self.inside.names.items c.args.name.now c.self.inside.exact
    c.self.inside.caseless c.place_of.result c.self.invariant c.place_of.ensures
    ∙ ap (position (bytes_eq c.args.name.now)) c.self.view_is
