use Rattle.std.proofs.Common.{◌<◌, ◌&&◌, ◌∙◌, sym, length, arith}
use Rattle.rule_types.specs.declared.action.Branch.TheVariants.{Then, Otherwise}
use Rattle.verdict_meaning.specs.Shown.{branch_safe}
use Rattle.box_eval.specs.internal.Known.{known_of}
use Rattle.box_eval.proofs.Folds.{all_goes_on, one_fails}
use Rattle.box_eval.proofs.limit.rules_safe.Goals as goal

pub returns-then-not-branches_safe : goal.returns-then-not-branches_safe
returns-then-not-branches_safe c =
    let within : c.loop-number.number < length c.args.rules.now.rules = omega (arith, c.loop-number-test.true, c.len-number-end.ensures.value) in
    record {
      value =
          sym
          (one_fails
          (λ number.
          branch_safe c.args.rules.now c.args.tables.now c.args.cell.now
          (known_of c.args.truths.now) c.args.limit.now.link c.args.limit.now.lo
          c.args.limit.now.hi number Then
          && branch_safe c.args.rules.now c.args.tables.now c.args.cell.now
          (known_of c.args.truths.now) c.args.limit.now.link c.args.limit.now.lo
          c.args.limit.now.hi number Otherwise)
          (length c.args.rules.now.rules) c.loop-number.number within
          (sym c.branches_safe.ensures.value ∙ c.if-not-branches_safe.true));
    }

pub loop-number-preserved : goal.loop-number-preserved
loop-number-preserved c = (
  all_goes_on
      (λ number.
      branch_safe c.args.rules.now c.args.tables.now c.args.cell.now
      (known_of c.args.truths.now) c.args.limit.now.link c.args.limit.now.lo
      c.args.limit.now.hi number Then
      && branch_safe c.args.rules.now c.args.tables.now c.args.cell.now
      (known_of c.args.truths.now) c.args.limit.now.link c.args.limit.now.lo
      c.args.limit.now.hi number Otherwise)
      c.loop-number.number c.loop-number.invariant.0
      (sym c.branches_safe.ensures.value ∙ c.if-not-branches_safe.false),
  omega (arith, c.loop-number-test.true, c.len-number-end.ensures.value),
)
