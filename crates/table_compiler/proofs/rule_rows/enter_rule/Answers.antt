use Rattle.std.proofs.Common.{◌++◌, ap, ◌∙◌}
use Rattle.rule_types.specs.declared.action.Branch.TheVariants.{Then}
use Rattle.table_compiler.specs.Clauses.{clauses_of}
use Rattle.table_compiler.specs.Rows.{first_on, branch_row}
use Rattle.table_compiler.proofs.Filling.{rule_done}
use Rattle.table_compiler.proofs.rule_rows.enter_rule.Goals as goal

pub returns : goal.returns
returns c = record {
  rows = λ rows is. rule_done c.args.links.now c.enter_branch-2.new.tables rows c.args.place c.args.rule.now
      c.from_vec-clauses.result c.as_slice-then_actions.result.now c.as_slice-else_actions.result.now
      (c.from_vec-clauses.ensures.value ∙ c.in_ok-clauses_of.ensures ∙ ap clauses_of c.as_slice.ensures.value)
      c.as_slice-then_actions.ensures.value c.as_slice-else_actions.ensures.value
      (c.in_ok-enter_branch-2.ensures.rows
      (λ link. rows link ++ branch_row c.args.place Then c.from_vec-clauses.result (first_on link c.as_slice-then_actions.result.now))
      (c.in_ok-enter_branch.ensures.rows rows is));
  each = c.in_ok-enter_branch-2.ensures.each ∙ c.in_ok-enter_branch.ensures.each;
}
