use Rattle.std.proofs.Common.{ap, ◌∙◌}
use Rattle.std.proofs.lemmas.List.{with_items_is}
use Rattle.table_compiler.specs.Rows.{ranked}
use Rattle.table_compiler.proofs.Filling.{all_tables}
use Rattle.table_compiler.proofs.compiler.compile.Goals as goal

pub returns : goal.returns
returns c = record {
  tables =
      c.from_vec.ensures.value
      ∙ with_items_is c.in_ok-tables.tables c.fill.new.tables (c.fill.ensures.each ∙ c.deref_mut.ensures.len)
      ∙ c.in_ok-fill.ensures.rows
      ∙ all_tables c.args.rules.now c.as_slice-3.result.now (c.as_slice-3.ensures.value ∙ c.in_ok-places.ensures ∙ ap ranked c.as_slice.ensures.value);
}
