use Rattle.std.proofs.Common.{◌<◌, ap, length, arith}
use Rattle.premise_eval.specs.Kept.{Kept}
use Rattle.premise_eval.proofs.PlanSteps.{rows_long}
use Rattle.premise_eval.proofs.RowSteps.{pairs_row}
use Rattle.premise_eval.proofs.premises.pairs_of.Goals as goal

pub index-requires : goal.index-requires
index-requires c =
    omega (arith, c.requires.exists, rows_long c.args.values.now.columns c.args.rules.now.rules c.args.values.now.pairs c.requires.plan.pairs, ap (λ (k : Kept). length k.pairs) c.values.view_is, c.values.inside.pairs.ok.0)

pub returns : goal.returns
returns c =
    let within : c.args.rule < length c.values.inside.pairs.items =
    omega (arith, c.requires.exists, rows_long c.args.values.now.columns c.args.rules.now.rules c.args.values.now.pairs c.requires.plan.pairs, ap (λ (k : Kept). length k.pairs) c.values.view_is) in
    record {
      each = λ row given.
          pairs_row c.args.rules.now c.args.values.now c.values.inside.pairs.items c.args.rule c.index.result.now c.as_slice.result.now row
          c.requires.plan (ap (λ (k : Kept). k.pairs) c.values.view_is) within c.index.ensures c.as_slice.ensures.value given;
    }
