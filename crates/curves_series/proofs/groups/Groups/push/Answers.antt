use Rattle.std.proofs.Common.{[], ◌∷◌, ◌++◌, ap, ap₂, sym, ◌∙◌, map}
use Rattle.std.specs.Prelude.{position}
use Rattle.std.specs.Str.{bytes_eq}
use Rattle.std.proofs.lemmas.List.{length-map}
use Rattle.curves_series.specs.internal.Views.{lines_now, zipped}
use Rattle.curves_series.proofs.GroupPuts.{line_put, table_put, on_ok, ok_both}
use Rattle.curves_series.proofs.groups.Groups.push.Goals as goal

pub returns-in-Some-clause-value : goal.returns-in-Some-clause-value
returns-in-Some-clause-value c =
    let old = c.args.self.now in
    let lists = map (λ table. lines_now table.lines.items) old.tables.items in
    let even = c.requires.even ∙ sym (length-map old.tables.items (λ table. lines_now table.lines.items)) in
    let found = sym (ap (λ name. position (bytes_eq name) old.names) c.name_of-name.ensures.value) ∙ sym c.position.ensures.value ∙ c.in-Some.is in
    let put = line_put c.args.line.now old.names lists c.in-Some.number even found in
    on_ok c.push_line.result (λ e. ap (zipped old.names) e ∙ put) c.push_line.ensures.tables

pub returns-in-None-clause-value : goal.returns-in-None-clause-value
returns-in-None-clause-value c =
    let old = c.args.self.now in
    let lists = map (λ table. lines_now table.lines.items) old.tables.items in
    let even = c.requires.even ∙ sym (length-map old.tables.items (λ table. lines_now table.lines.items)) in
    let found = sym (ap (λ name. position (bytes_eq name) old.names) c.name_of-name.ensures.value) ∙ sym c.position.ensures.value ∙ c.in-None.is in
    let put = table_put c.args.line.now old.names lists even found in
    ok_both c.push_table.result (λ e f. ap₂ zipped (e ∙ ap (λ name. old.names ++ name ∷ []) c.name_of-name.ensures.value) f ∙ put) c.push_table.ensures.names c.push_table.ensures.tables
