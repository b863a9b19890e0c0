use Rattle.std.proofs.Common.{get_or, refl, sym, ◌∙◌}
use Rattle.std.proofs.lemmas.Option.{slice_get-get_or}
use Rattle.table_compiler.proofs.Filling.{acted_before, no_row, first_row}
use Rattle.table_compiler.proofs.rule_rows.enter_action.Goals as goal

pub returns-then-acts_on : goal.returns-then-acts_on
returns-then-acts_on c = record {
  rows = λ rows is. acted_before c.args.tables.now c.args.links.now rows c.args.at c.args.clauses.now c.args.actions.now (get_or c.args.actions.now c.args.at.action c.index-actions-at.result)
      (slice_get-get_or c.args.actions.now c.args.at.action c.index-actions-at.result c.requires.within)
      (sym c.if-acts_on.ensures) is;
  each = refl;
}

pub returns-in_default : goal.returns-in_default
returns-in_default c = record {
  rows = λ rows is. no_row c.args.tables.now c.args.links.now rows c.args.at c.args.clauses.now c.args.actions.now (sym c.in_default.is ∙ c.in_ok-row.ensures) is;
  each = refl;
}

pub returns : goal.returns
returns c = record {
  rows = λ rows is. first_row c.enter_row.new.tables c.args.links.now rows c.args.at c.args.clauses.now c.args.actions.now (get_or c.args.actions.now c.args.at.action c.index-actions-at.result) c.in-Some.row
      (slice_get-get_or c.args.actions.now c.args.at.action c.index-actions-at.result c.requires.within)
      (sym c.if-acts_on.ensures) (sym c.in-Some.is ∙ c.in_ok-row.ensures) (c.in_ok-enter_row.ensures.rows rows is);
  each = c.in_ok-enter_row.ensures.each;
}
