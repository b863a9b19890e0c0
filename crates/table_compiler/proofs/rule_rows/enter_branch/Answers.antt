use Rattle.std.proofs.Common.{◌++◌, take, refl, ◌∙◌}
use Rattle.table_compiler.specs.Rows.{first_on, branch_row}
use Rattle.table_compiler.proofs.Filling.{branch_none, branch_more, branch_all}
use Rattle.table_compiler.proofs.rule_rows.enter_branch.Goals as goal

pub loop-action-init : goal.loop-action-init
loop-action-init c = record {
  each = refl;
  rows = λ rows is. branch_none c.args.links.now c.args.tables.now rows c.args.place c.args.branch c.args.clauses.now is;
}

pub loop-action-preserved : goal.loop-action-preserved
loop-action-preserved c = record {
  each = c.in_ok-enter_action.ensures.each ∙ c.loop-action.invariant.each;
  rows = λ rows is. branch_more c.args.links.now c.enter_action.new.tables rows c.args.place c.args.branch c.args.clauses.now c.args.actions.now c.loop-action.action c.loop-action-test.true
      (c.in_ok-enter_action.ensures.rows
      (λ link. rows link ++ branch_row c.args.place c.args.branch c.args.clauses.now (first_on link (take c.loop-action.action c.args.actions.now)))
      (c.loop-action.invariant.rows rows is));
}

pub returns : goal.returns
returns c = record {
  rows = λ rows is. branch_all c.args.links.now c.loop-action.tables rows c.args.place c.args.branch c.args.clauses.now c.args.actions.now c.loop-action.action c.loop-action-test.false
      (c.loop-action.invariant.rows rows is);
  each = c.loop-action.invariant.each;
}
