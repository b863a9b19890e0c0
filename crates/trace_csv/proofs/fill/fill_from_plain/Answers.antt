use Rattle.std.proofs.Common.{arith, ap, ◌∙◌, length, option_map}
use Rattle.trace_csv.specs.internal.Filling.{cut_behind, is_plain_behind}
use Rattle.trace_csv.proofs.Steps.{column_filled, columns_end}
use Rattle.trace_csv.proofs.fill.fill_from_plain.Goals as goal

pub loop-at-preserved : goal.loop-at-preserved
loop-at-preserved c =
    let cut = ap (λ behind. cut_behind (option_map (λ rest. rest.now) behind)) c.in-Some.is ∙ c.in-Some-put_first.ensures.cut in
    record {
      filled =
          column_filled c.args.columns.now c.loop-at.at _ _ _ _ c.loop-at.inputs c.put_first.new.inputs c.loop-at-test.true
          cut c.in-Some-put_first.ensures.put
          ∙ c.loop-at.invariant.filled;
      plain = λ h. c.loop-at.invariant.plain
          (ap (λ behind. is_plain_behind (option_map (λ rest. rest.now) behind)) c.in-Some.is ∙ c.in-Some-put_first.ensures.plain h);
      count = omega (arith, ap length cut, c.loop-at.invariant.count);
      long = c.put_first.ensures.long ∙ c.loop-at.invariant.long;
    }

pub returns-clause-filled : goal.returns-clause-filled
returns-clause-filled c = λ end. columns_end c.args.columns.now c.loop-at.at _ c.loop-at.inputs (omega (arith, c.loop-at-test.false)) ∙ c.loop-at.invariant.filled
