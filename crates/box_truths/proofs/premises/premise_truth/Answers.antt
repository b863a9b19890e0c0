use Rattle.std.proofs.Common.{◌∙◌, subst}
use Rattle.std.specs.Prelude.{All}
use Rattle.std.proofs.lemmas.List.{nil_from_length}
use Rattle.std.proofs.lemmas.List.Elements.{All-head, All-tail}
use Rattle.rule_types.specs.WellFormed.{ConditionFits}
use Rattle.verdict_meaning.specs.Truths.{condition_truth}
use Rattle.box_truths.proofs.Groups.{none_is_yes, walk_begins, walk_ends, walk_goes_on}
use Rattle.box_truths.proofs.premises.premise_truth.Goals as goal

pub returns-in_default : goal.returns-in_default
returns-in_default c = record {
  value =
      none_is_yes
      (condition_truth c.args.names.now c.args.times.now.start c.args.times.now.step c.args.cell.now)
      c.args.conditions.now
      (nil_from_length c.args.conditions.now c.in_default.ensures.cases);
}

pub condition_truth-group-requires-clause-fits : goal.condition_truth-group-requires-clause-fits
condition_truth-group-requires-clause-fits c =
    All-head (ConditionFits c.args.names.now) c.in-Some.first.now c.in-Some.more.now
    (subst (All (ConditionFits c.args.names.now)) c.in-Some.ensures.cases.0 c.requires.fit)

pub conditions-init : goal.conditions-init
conditions-init c = (
  walk_begins
      (condition_truth c.args.names.now c.args.times.now.start c.args.times.now.step c.args.cell.now)
      c.args.conditions.now c.in-Some.first.now c.in-Some.more.now c.condition_truth-group.result
      c.in-Some.ensures.cases.0 c.condition_truth-group.ensures.value,
  All-tail (ConditionFits c.args.names.now) c.in-Some.first.now c.in-Some.more.now
      (subst (All (ConditionFits c.args.names.now)) c.in-Some.ensures.cases.0 c.requires.fit),
)

pub condition_truth-here-requires-clause-fits : goal.condition_truth-here-requires-clause-fits
condition_truth-here-requires-clause-fits c =
    All-head (ConditionFits c.args.names.now) c.in-Some-split_first.condition.now
    c.in-Some-split_first.others.now
    (subst (All (ConditionFits c.args.names.now)) c.in-Some-split_first.ensures.cases.0
    c.conditions.invariant.1)

pub conditions-preserved : goal.conditions-preserved
conditions-preserved c = (
  walk_goes_on
      (condition_truth c.args.names.now c.args.times.now.start c.args.times.now.step c.args.cell.now)
      c.conditions.rest.now c.in-Some-split_first.condition.now c.in-Some-split_first.others.now
      c.conditions.total c.conditions.group c.condition_truth-here.result
      c.groups_closed-total.result c.group_with-group.result c.in-Some-split_first.ensures.cases.0
      c.condition_truth-here.ensures.value c.groups_closed-total.ensures.value
      c.group_with-group.ensures.value
      ∙ c.conditions.invariant.0,
  All-tail (ConditionFits c.args.names.now) c.in-Some-split_first.condition.now
      c.in-Some-split_first.others.now
      (subst (All (ConditionFits c.args.names.now)) c.in-Some-split_first.ensures.cases.0
      c.conditions.invariant.1),
)

pub returns : goal.returns
returns c = record {
  value =
      c.both_truth.ensures.value
      ∙ walk_ends
      (condition_truth c.args.names.now c.args.times.now.start c.args.times.now.step c.args.cell.now)
      c.conditions.total c.conditions.group c.conditions.rest.now
      (nil_from_length c.conditions.rest.now c.in_default-split_first.ensures.cases)
      ∙ c.conditions.invariant.0;
}
