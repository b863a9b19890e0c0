use Rattle.std.proofs.Common.{refl, sym, slice_get}
use Rattle.rule_types.proofs.PublicLaws.{opened-orders}
use Rattle.table_compiler.proofs.CountedRules.{rule_at}
use Rattle.table_compiler.proofs.Filling.{no_rule, rule_found}
use Rattle.table_compiler.proofs.rule_rows.enter_rule_at.Goals as goal

pub enter_rule-requires-clause-rising : goal.enter_rule-requires-clause-rising
enter_rule-requires-clause-rising c =
    rw c.as_slice.ensures.value (opened-orders c.args.rules.now c.requires.well_formed.orders).controlled

pub enter_rule-requires-clause-conditions : goal.enter_rule-requires-clause-conditions
enter_rule-requires-clause-conditions c =
    (rule_at c.args.rules.now c.args.place c.in-Some.rule.now c.requires.well_formed (sym c.in-Some.ensures.value)).conditions_counted

pub enter_rule-requires-clause-then_actions : goal.enter_rule-requires-clause-then_actions
enter_rule-requires-clause-then_actions c =
    (rule_at c.args.rules.now c.args.place c.in-Some.rule.now c.requires.well_formed (sym c.in-Some.ensures.value)).then_counted

pub enter_rule-requires-clause-else_actions : goal.enter_rule-requires-clause-else_actions
enter_rule-requires-clause-else_actions c =
    (rule_at c.args.rules.now c.args.place c.in-Some.rule.now c.requires.well_formed (sym c.in-Some.ensures.value)).else_counted

pub returns-in_default : goal.returns-in_default
returns-in_default c = record {
  rows = λ rows is. no_rule c.args.rules.now.controlled c.args.tables.now rows c.args.place (slice_get c.args.rules.now.rules c.args.place) (sym c.in_default.ensures.value) is;
  each = refl;
}

pub returns : goal.returns
returns c = record {
  rows =
      rule_found c.args.rules.now.controlled c.as_slice.result.now c.enter_rule.new.tables c.args.tables.now c.args.place c.in-Some.rule.now
      (slice_get c.args.rules.now.rules c.args.place) c.as_slice.ensures.value c.in-Some.ensures.value c.in_ok-enter_rule.ensures.rows;
  each = c.in_ok-enter_rule.ensures.each;
}
