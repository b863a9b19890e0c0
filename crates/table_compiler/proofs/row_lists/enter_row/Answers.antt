use Rattle.std.proofs.Common.{set, refl, ap, ◌∙◌}
use Rattle.std.proofs.lemmas.List.{length-set}
use Rattle.table_compiler.proofs.Filling.{not_there, entered}
use Rattle.table_compiler.proofs.row_lists.enter_row.Goals as goal

pub returns-in_default : goal.returns-in_default
returns-in_default c = record {
  rows = λ rows is. not_there c.args.links.now c.args.tables.now rows c.args.link c.in_default.field-0 c.args.row c.requires.rising c.in_default.ensures.position is;
  each = refl;
}

pub returns : goal.returns
returns c = record {
  rows = λ rows is. ap (λ t. set c.args.tables.now c.in-Ok.at t) c.in_ok-add_row.ensures
      ∙ entered c.args.links.now c.args.tables.now rows c.args.link c.in-Ok.at c.args.row c.index-tables-at.result c.requires.rising c.in-Ok.ensures.position is;
  each = length-set c.args.tables.now c.in-Ok.at c.add_row.new.table;
}
